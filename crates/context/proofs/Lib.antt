pub mod ContextLaws
pub mod JudgeLaws
pub mod ListLaws
