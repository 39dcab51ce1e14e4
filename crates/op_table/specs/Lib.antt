pub mod Laws
pub mod Shapes
