pub mod InverseLemmas
pub mod ViewLemmas
pub mod PlaceLemmas
pub mod AlterLemmas
pub mod ToldLemmas
