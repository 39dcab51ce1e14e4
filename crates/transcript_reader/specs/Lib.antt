pub mod AsRead
pub mod Claims
pub mod Reading
pub mod Steps
pub mod Transcripts
