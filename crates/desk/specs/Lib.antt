pub mod Desks
pub mod Runs
pub mod Submitters
