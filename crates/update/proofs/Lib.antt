mod MutationLaws
mod ListedLaws
pub mod ChangeLaws
