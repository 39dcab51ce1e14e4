mod Following
pub mod Positions
mod Rising
mod Saved
