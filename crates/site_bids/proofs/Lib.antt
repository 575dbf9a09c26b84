pub mod BidRoutes
pub mod Decimals
pub mod BidTexts
