pub mod Showing
pub mod Taken
pub mod Promises
