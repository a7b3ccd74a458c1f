pub mod Telling
pub mod Merging
pub mod Thinning
pub mod Narrowing
pub mod Copying
