pub mod Heaps
pub mod HeapsLaws
