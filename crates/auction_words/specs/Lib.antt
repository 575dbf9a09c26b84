pub mod CommandLine
pub mod Houses
pub mod Tasks
