pub mod DefinedLemmas
pub mod MovedLemmas
pub mod TransferLemmas
