pub mod Makes
pub mod Shared
pub mod Blocks
