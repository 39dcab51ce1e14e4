pub mod Ignoring
pub mod Outputs
pub mod Stamping
