pub mod Pairs
pub mod Takable
