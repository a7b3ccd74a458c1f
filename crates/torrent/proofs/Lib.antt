pub mod Checking
pub mod Answering
