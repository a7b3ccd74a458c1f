pub mod Bitwise
pub mod BytesOfAWord
