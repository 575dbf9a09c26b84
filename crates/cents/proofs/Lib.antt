pub mod DigitLemmas
pub mod SpellingLemmas
