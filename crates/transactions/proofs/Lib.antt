mod BodyLaws
mod SpanLaws
