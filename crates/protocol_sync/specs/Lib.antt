pub mod Above
pub mod Gathered
pub mod Laws
pub mod Sound
pub mod Synced
