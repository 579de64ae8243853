pub mod CodeLaws
pub mod AnswerLaws
pub mod RefusedLaws
pub mod AtomLaws
mod EntryLaws
mod LayoutLaws
pub mod SkipLaws
