pub mod Ignoring
pub mod ReadSteps
pub mod Rows
pub mod Runs
