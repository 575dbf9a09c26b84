pub mod Seen
pub mod Numbers
pub mod Bids
pub mod Sales
pub mod Talk
