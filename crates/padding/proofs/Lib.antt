pub mod Pads
pub mod Putting
