pub mod EventTexts
pub mod Fitting
pub mod Plains
pub mod SplitLemmas
pub mod Takings
pub mod Turns
