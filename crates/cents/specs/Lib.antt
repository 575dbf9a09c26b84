pub mod Spelling
pub mod Fault
