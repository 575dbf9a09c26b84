pub mod Audits
pub mod AuditsFrom
pub mod Faults
pub mod Messages
pub mod Places
pub mod SealedBids
pub mod Surplus
pub mod SurplusFrom
