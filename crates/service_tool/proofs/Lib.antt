pub mod CallLemmas
pub mod FaultLemmas
pub mod OptionLemmas
pub mod ReplLemmas
