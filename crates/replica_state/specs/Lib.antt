pub mod Moves
pub mod Repeating
pub mod Replies
pub mod Sends
pub mod State
pub mod Within
