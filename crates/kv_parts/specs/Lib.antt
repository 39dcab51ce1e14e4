pub mod Counts
pub mod KeyParts
pub mod Keys
