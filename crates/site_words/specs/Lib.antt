pub mod Services
pub mod Tasks
