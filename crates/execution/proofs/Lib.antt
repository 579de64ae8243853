mod ExecuteLaws
mod BufferLaws
