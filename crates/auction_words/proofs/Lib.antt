mod AskedLemmas
pub mod CommandLemmas
pub mod HouseAppLemmas
