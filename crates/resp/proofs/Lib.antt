pub mod Collected
pub mod Lines
pub mod Meanings
pub mod Numerals
pub mod Readers
pub mod RequestLemmas
