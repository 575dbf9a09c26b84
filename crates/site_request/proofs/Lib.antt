pub mod DayLemmas
pub mod CallerLemmas
mod Apart
mod LoneFields
mod TableBodies
