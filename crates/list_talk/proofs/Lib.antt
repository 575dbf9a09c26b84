pub mod Gathered
mod Noting
mod Rates
mod Askers
mod Asked
mod Waiting
