pub mod Lives
pub mod Runs
pub mod Told
pub mod Turns
