pub mod Epochs
pub mod Ignoring
pub mod Installs
pub mod Rising
