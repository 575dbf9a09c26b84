pub mod Faults
pub mod Lots
pub mod Orders
pub mod Listings
pub mod Outcomes
pub mod Tallies
pub mod Lines
pub mod Imports
