pub mod Braiding
pub mod Naming
pub mod Places
pub mod Running
pub mod Saying
pub mod Seating
pub mod Taking
