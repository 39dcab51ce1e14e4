pub mod Trimmed
pub mod Watching
