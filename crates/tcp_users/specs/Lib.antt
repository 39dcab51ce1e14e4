pub mod Receiving
pub mod Turns
