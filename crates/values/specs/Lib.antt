pub mod Codes
pub mod Signs
