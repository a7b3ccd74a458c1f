pub mod Pieces
pub mod Asks
pub mod Hybrid
