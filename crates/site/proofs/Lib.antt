mod Steps
mod Turns
pub mod Isolated
pub mod Left
pub mod Stops
mod Bare
pub mod Raised
