pub mod Whole
pub mod Passed
pub mod Coming
pub mod Shows
pub mod Safe
pub mod Trimming
pub mod Archives
