pub mod Decoded
pub mod V1Keys
pub mod V1Half
pub mod Halves
pub mod Stream
