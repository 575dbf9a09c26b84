pub mod Fitting
pub mod Waiting
pub mod Sold
pub mod Parties
pub mod Led
pub mod Changing
pub mod WatchedItems
pub mod OwnBids
