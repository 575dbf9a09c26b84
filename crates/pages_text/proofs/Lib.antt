pub mod Periods
pub mod Members
