pub mod RowLines
pub mod RowTexts
pub mod LineRows
pub mod Wholes
