pub mod Auditing
pub mod Outcome
pub mod Steps
pub mod Telling
pub mod Traces
