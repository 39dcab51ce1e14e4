pub mod Causes
pub mod Clocks
pub mod Prefixes
pub mod Links
pub mod Memory
pub mod Plans
pub mod Ports
pub mod Observed
