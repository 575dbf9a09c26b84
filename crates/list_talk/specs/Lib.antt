pub mod Index
pub mod Rated
pub mod Sorted
pub mod Asking
