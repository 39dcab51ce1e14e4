pub mod Finding
pub mod LineCounts
pub mod Marks
pub mod Network
