pub mod Ways
pub mod ExtendsLaws
