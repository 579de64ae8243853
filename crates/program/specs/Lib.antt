pub mod Answer
pub mod Codes
pub mod Entries
pub mod Refused
pub mod Skips
