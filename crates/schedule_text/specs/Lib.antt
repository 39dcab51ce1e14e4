pub mod Cutting
pub mod EventText
pub mod Fits
pub mod LineAnswer
pub mod Reading
pub mod Rules
pub mod Stepping
pub mod Ticks
