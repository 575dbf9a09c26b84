pub mod BalanceLemmas
pub mod CalendarLemmas
pub mod LineLemmas
pub mod OrderLemmas
pub mod TextLemmas
pub mod TotalLemmas
pub mod WrittenLemmas
pub mod ZoneLemmas
