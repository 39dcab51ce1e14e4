pub mod Answers
pub mod Joining
pub mod Names
pub mod Owning
pub mod Splitting
