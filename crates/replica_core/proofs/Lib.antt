pub mod Ignoring
pub mod Lengths
pub mod Posted
pub mod Ready
