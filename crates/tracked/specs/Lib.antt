pub mod Live
pub mod Index
