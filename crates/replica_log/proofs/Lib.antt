pub mod Adopted
pub mod InRanges
