pub mod Directions
pub mod Errors
pub mod Lines
pub mod Rows
pub mod Translating
