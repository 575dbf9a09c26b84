pub mod Record
pub mod Promises
