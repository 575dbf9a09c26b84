pub mod RecoveredLemmas
