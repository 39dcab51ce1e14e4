pub mod Admitted
pub mod Counted
pub mod Guard
pub mod Halves
pub mod Noting
pub mod Spelled
