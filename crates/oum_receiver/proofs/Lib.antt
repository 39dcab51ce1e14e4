pub mod Apart
pub mod Counts
pub mod Entries
pub mod HandingUp
pub mod Lone
pub mod Sound
pub mod Stamps
