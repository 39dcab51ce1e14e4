pub mod Actors
pub mod Lanes
pub mod Texts
