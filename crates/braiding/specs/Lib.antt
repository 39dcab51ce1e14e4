pub mod Checks
pub mod Ending
pub mod Orders
pub mod Reading
