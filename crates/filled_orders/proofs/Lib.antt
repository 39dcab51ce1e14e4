pub mod Along
pub mod Marked
pub mod Placed
pub mod Structure
pub mod Found
