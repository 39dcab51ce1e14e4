pub mod Bounds
pub mod Executions
pub mod Lists
pub mod Logs
pub mod Merging
pub mod Tables
pub mod Worked
