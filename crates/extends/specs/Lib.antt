pub mod Extends
pub mod Asks
