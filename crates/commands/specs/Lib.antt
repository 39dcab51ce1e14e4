pub mod Audits
pub mod Checks
pub mod Clusters
pub mod Ending
pub mod Nodes
pub mod Runs
pub mod Tasks
pub mod Words
