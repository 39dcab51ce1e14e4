pub mod Fields
pub mod Split
