pub mod Acted
pub mod Entered
