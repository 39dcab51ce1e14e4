pub mod Answers
pub mod Fields
pub mod LogBodies
pub mod Logs
pub mod Reading
pub mod SpelledMessages
pub mod Spelling
