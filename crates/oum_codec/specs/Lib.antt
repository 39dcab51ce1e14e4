pub mod Fixed
pub mod Kinds
pub mod Numbers
pub mod Places
pub mod Reading
pub mod Spelling
