pub mod AccountLemmas
pub mod EntryLemmas
pub mod RunLemmas
pub mod SavedLemmas
