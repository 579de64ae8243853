pub mod Words
pub mod Sides
pub mod Marks
pub mod Refusals
