pub mod Growing
pub mod Order
pub mod Placed
pub mod Blocked
pub mod Making
pub mod Keys
pub mod Shared
