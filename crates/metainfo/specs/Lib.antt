pub mod Metainfo
pub mod MetainfoLaws
