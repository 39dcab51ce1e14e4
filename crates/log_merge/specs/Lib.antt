pub mod Given
pub mod Merge
pub mod Merged
pub mod Merging
pub mod Pairs
pub mod Starting
