mod TableLaws
mod BaseLaws
pub mod LearnLaws
pub mod DecideLaws
pub mod Joins
