pub mod Alone
pub mod Composing
pub mod Draining
pub mod Gathered
pub mod Moves
pub mod Rows
pub mod Steps
