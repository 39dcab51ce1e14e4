-- The definitions of this crate.
pub mod Acks
pub mod Flights
pub mod Names
pub mod RoundTrips
pub mod Topics
pub mod Sending
pub mod Receiving
pub mod Repeating
