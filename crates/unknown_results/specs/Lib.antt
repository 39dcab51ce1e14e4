pub mod AnyResults
pub mod Asking
pub mod Filling
