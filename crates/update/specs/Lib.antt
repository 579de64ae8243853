pub mod Mutations
pub mod Listed
pub mod Change
