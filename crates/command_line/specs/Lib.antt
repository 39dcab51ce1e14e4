pub mod Commands
pub mod Numbers
pub mod Program
pub mod Rows
