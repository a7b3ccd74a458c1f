pub mod Serve
pub mod Asks
pub mod ServeLaws
