pub mod Joined
mod Among
mod Parties
mod Placed
mod Alike
mod Known
pub mod Fronts
pub mod Reserves
mod Closed
mod Listed
mod Due
