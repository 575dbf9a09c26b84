pub mod OwnBids
pub mod Reached
pub mod Strays
pub mod Listed
pub mod Judged
