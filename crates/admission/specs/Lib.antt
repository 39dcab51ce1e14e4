pub mod Actors
pub mod Asked
pub mod Greetings
pub mod Questions
pub mod Registries
pub mod Rounds
pub mod Sources
