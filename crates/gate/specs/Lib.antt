pub mod Sides
pub mod Carrying
pub mod Attaching
pub mod Serving
pub mod Faults
