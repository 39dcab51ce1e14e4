pub mod Cutting
pub mod Prefix
pub mod Held
pub mod Joining
pub mod Parts
pub mod Runs
