pub mod FindLemmas
pub mod LineLemmas
pub mod MarkLemmas
