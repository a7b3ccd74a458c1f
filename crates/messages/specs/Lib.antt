pub mod Padded
pub mod Take
pub mod Asks
pub mod TakeLaws
pub mod TakenLaws
