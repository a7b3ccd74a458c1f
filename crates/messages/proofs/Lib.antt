pub mod Padding
pub mod Numbers
pub mod Taking
