pub mod Trees
pub mod Fits
pub mod Faults
