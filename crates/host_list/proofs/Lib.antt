pub mod Apart
pub mod Digesting
pub mod Grammar
pub mod Orders
pub mod Pieces
pub mod Tables
