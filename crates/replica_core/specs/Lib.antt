pub mod Code
pub mod Ignoring
pub mod Posting
pub mod ReplicaSteps
pub mod Within
