pub mod Digits
pub mod FieldTexts
pub mod HexLengths
pub mod SplitLemmas
