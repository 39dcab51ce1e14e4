pub mod Clients
pub mod Datagrams
