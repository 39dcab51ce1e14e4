pub mod Accounts
pub mod Answers
pub mod Dropping
pub mod Judged
pub mod Laws
pub mod Removing
pub mod Runs
pub mod Table
