pub mod Cuts
pub mod Firsts
pub mod Searched
pub mod Takings
