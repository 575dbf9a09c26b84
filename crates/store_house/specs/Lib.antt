pub mod Found
pub mod Named
pub mod Numbers
pub mod Opening
pub mod Over
pub mod Places
pub mod Plain
