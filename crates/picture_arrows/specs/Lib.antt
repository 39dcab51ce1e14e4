pub mod Actors
pub mod Deliveries
pub mod Missed
