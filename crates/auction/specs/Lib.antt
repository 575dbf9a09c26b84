pub mod Copies
pub mod Remains
pub mod Tasks
