pub mod Filters
pub mod Masks
pub mod Members
