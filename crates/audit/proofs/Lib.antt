pub mod Carrying
pub mod Endings
pub mod Ends
pub mod Headers
pub mod Lines
pub mod Missings
pub mod Nexts
pub mod Sounding
