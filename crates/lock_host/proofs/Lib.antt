pub mod AnswerLemmas
pub mod LoadLemmas
pub mod ReadLemmas
pub mod TokenLemmas
