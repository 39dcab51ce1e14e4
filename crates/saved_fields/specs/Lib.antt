pub mod Fields
pub mod ListReading
pub mod Lists
pub mod Numbers
pub mod Reading
pub mod Texts
