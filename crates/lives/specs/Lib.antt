pub mod Exchanges
pub mod Lives
