pub mod Endings
pub mod Latest
pub mod Orders
pub mod Readings
