-- The definitions of this crate.
pub mod Guards
pub mod Places
pub mod Silence
pub mod Turns
