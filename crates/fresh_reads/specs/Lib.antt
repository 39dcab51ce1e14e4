pub mod Code
pub mod FreshReads
