pub mod MeaningLaws
mod ReachLaws
