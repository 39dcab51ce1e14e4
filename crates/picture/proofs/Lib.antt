mod LaneLemmas
pub mod TextLemmas
