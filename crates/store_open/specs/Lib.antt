pub mod Setting
pub mod Opened
