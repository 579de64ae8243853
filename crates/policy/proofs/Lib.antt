mod RowLaws
mod CheckLaws
pub mod TakesLaws
mod PairLaws
