pub mod Following
pub mod Observers
pub mod Reads
pub mod Safe
