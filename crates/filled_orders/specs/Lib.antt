pub mod FilledAnswers
pub mod Filling
