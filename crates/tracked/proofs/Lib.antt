pub mod AtomLaws
pub mod IndexLaws
pub mod KeepLaws
mod SiftLaws
pub mod TrackedLaws
