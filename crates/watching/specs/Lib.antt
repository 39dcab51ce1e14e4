pub mod Asked
pub mod Laws
pub mod Lines
pub mod Screens
pub mod Statuses
pub mod Tellings
pub mod Turns
pub mod Watching
