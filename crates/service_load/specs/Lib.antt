pub mod Errors
pub mod Loads
pub mod Ranks
