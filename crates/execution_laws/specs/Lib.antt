pub mod Execution
pub mod Histories
pub mod Legality
pub mod Worked
