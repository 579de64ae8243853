pub mod Expressions
pub mod Bound
