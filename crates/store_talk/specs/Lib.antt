pub mod Answers
pub mod Spoiled
pub mod Taken
pub mod Texts
pub mod Waiting
