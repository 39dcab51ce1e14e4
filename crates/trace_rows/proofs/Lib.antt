pub mod Each
pub mod Fitting
pub mod NameTexts
pub mod RowTexts
pub mod TracedLines
