pub mod Agreement
pub mod Mask
pub mod Rounds
pub mod Synchronisation
pub mod Votes
