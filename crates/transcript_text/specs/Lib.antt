pub mod LineText
pub mod Transcript
