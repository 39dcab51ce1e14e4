pub mod ExecutedLemmas
pub mod PrefixLemmas
pub mod LimitLemmas
pub mod ResultLemmas
pub mod UndoLemmas
