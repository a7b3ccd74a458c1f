pub mod Content
pub mod Number
pub mod Refused
pub mod Written
pub mod Reads
