pub mod AsItIs
pub mod Behinds
pub mod Events
pub mod Readings
pub mod RowLemmas
pub mod Runs
pub mod Shapes
pub mod Spellings
