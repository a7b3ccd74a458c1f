pub mod Catalogue
pub mod Asks
