pub mod Answering
pub mod Answers
pub mod Ending
pub mod Noted
pub mod Texts
pub mod Words
pub mod Writing
