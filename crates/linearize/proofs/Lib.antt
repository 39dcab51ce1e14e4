pub mod Answered
pub mod AsEver
pub mod Ended
pub mod Filled
pub mod Numbered
pub mod Spelled
