pub mod Carried
pub mod Network
pub mod PostedFragments
pub mod Ranges
pub mod Sends
pub mod Steps
