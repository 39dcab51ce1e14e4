pub mod Counts
pub mod Ignoring
pub mod Ranges
pub mod RowLemmas
pub mod Turns
