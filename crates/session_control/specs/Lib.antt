pub mod ControllerSteps
pub mod Ignoring
pub mod Moves
