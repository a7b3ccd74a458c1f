pub mod Sha256
pub mod Answer
pub mod Sha256Laws
