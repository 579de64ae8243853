pub mod Fuel
pub mod Memory
