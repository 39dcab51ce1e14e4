pub mod Parsed
pub mod Reading
pub mod Replies
pub mod Spelling
