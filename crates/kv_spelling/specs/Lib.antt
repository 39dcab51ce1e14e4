pub mod Laws
pub mod Spell
