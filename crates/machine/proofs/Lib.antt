pub mod Running
mod TurnLaws
mod OperatorLaws
mod StopLaws
