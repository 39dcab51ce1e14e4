pub mod Audits
pub mod Braids
pub mod Names
