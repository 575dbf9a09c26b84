pub mod Memory
pub mod Turns
