pub mod Behinds
mod LineLemmas
pub mod Readings
mod Written
