pub mod HeldLemmas
mod ListedLemmas
pub mod MadeHouses
pub mod MadeRows
pub mod MadeSteps
mod Relisted
