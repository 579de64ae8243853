pub mod Words
pub mod Positions
pub mod Labels
pub mod Writes
