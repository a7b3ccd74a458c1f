pub mod Filling
pub mod Messages
