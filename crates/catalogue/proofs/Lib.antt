pub mod Writing
pub mod Filling
pub mod CatalogueLaws
pub mod PutLaws
