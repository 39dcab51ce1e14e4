pub mod Premises
pub mod Trimmed
pub mod WorkedSteps
