pub mod Digits
pub mod FoldLemmas
pub mod FoundLemmas
pub mod OpLemmas
pub mod WordLemmas
