pub mod Trims
pub mod Watched
