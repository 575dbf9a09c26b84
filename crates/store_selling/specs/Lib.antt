pub mod Listed
pub mod LookUps
pub mod Sales
