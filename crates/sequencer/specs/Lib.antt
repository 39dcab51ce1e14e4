pub mod Ignoring
pub mod Runs
pub mod SequencerSteps
