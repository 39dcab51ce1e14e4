pub mod Errors
pub mod Gathered
pub mod Rows
pub mod Words
