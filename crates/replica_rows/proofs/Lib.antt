mod Adopted
mod Branches
pub mod Counting
pub mod Draining
pub mod EachMove
pub mod EachRow
mod Entered
pub mod Fields
pub mod TrimmedLogs
pub mod Gathered
pub mod Loading
pub mod Opening
pub mod Ready
pub mod Replying
pub mod Rows
pub mod Running
pub mod Synchronised
mod Voting
