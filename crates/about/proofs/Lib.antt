pub mod AboutLaws
pub mod AboutMeans
