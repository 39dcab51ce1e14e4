mod ListLemmas
pub mod FieldLemmas
