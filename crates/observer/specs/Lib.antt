pub mod Hearing
pub mod Known
pub mod ObserverSteps
pub mod Observing
