mod Closed
mod Counted
mod DueBound
mod Listed
mod Sealed
mod Sold
mod Unbid
