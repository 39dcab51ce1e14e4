pub mod Merging
pub mod Trimming
pub mod Worked
