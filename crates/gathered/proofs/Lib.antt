pub mod PositionLaws
mod AddedLaws
mod LabelLaws
mod WriteLaws
