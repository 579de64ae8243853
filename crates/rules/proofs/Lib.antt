pub mod StandsLaws
mod SimpleLaws
mod EnterLaws
