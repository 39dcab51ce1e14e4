pub mod AnswerLemmas
pub mod LoadLemmas
pub mod PlacesLemmas
pub mod ReadLemmas
pub mod RowLemmas
pub mod TableLemmas
