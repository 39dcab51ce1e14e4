pub mod Cutting
pub mod Deciding
pub mod Filling
pub mod Reading
