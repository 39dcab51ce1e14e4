pub mod Datagrams
pub mod Lines
pub mod Ops
pub mod Outs
pub mod Passing
pub mod Rows
pub mod Spelled
pub mod Texts
