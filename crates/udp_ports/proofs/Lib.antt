pub mod EachDone
pub mod GoingOn
pub mod Settling
pub mod Turning
