pub mod SubmittedLemmas
pub mod PairingLemmas
pub mod StopLemmas
pub mod SaidLemmas
