pub mod InOrder
pub mod Opened
