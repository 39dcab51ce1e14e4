pub mod Pairing
pub mod Said
pub mod Stops
pub mod Submitted
