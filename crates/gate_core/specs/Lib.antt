pub mod Gates
pub mod Next
pub mod Runs
pub mod Tables
