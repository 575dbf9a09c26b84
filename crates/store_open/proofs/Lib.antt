pub mod EditionLemmas
pub mod InOrder
pub mod ReadLemmas
pub mod ReserveLemmas
pub mod UpgradeLemmas
mod EditionMeaning
mod EditionRowLemmas
mod MoreEditions
mod WrittenEditions
