pub mod Acts
pub mod Staying
