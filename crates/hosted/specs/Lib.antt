pub mod Actors
pub mod Arguments
pub mod Plans
pub mod Texts
