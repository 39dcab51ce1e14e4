pub mod Addresses
pub mod Digests
pub mod LineWords
pub mod Lists
pub mod Places
pub mod Reading
pub mod Words
