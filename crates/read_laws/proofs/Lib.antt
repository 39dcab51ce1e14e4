pub mod Coming
pub mod Exchanges
pub mod ObserverRows
pub mod Receiving
pub mod Runs
pub mod Seats
pub mod Silent
pub mod Worlds
