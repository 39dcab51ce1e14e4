pub mod HeaderTexts
pub mod Places
pub mod Printing
pub mod WholeLines
