pub mod Views
pub mod Compares
