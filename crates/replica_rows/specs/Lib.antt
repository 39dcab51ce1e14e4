pub mod Draining
pub mod Gathering
pub mod Messages
pub mod Trimming
pub mod Rows
pub mod Taking
pub mod MessagePoints
pub mod Within
