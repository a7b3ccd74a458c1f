pub mod Boundary
pub mod Version
