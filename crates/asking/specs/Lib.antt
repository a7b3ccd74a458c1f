pub mod Asking
pub mod Picking
pub mod Asks
