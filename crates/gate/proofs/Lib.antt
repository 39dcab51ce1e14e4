pub mod AttachingLemmas
pub mod Calling
pub mod Running
pub mod ServingLemmas
pub mod Taking
