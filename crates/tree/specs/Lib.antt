pub mod Geometry
pub mod Values
