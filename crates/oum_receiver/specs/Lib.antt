pub mod Front
pub mod Receiving
pub mod Requests
pub mod Runs
pub mod Table
