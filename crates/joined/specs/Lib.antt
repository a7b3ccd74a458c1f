pub mod FileLaws
pub mod TokenLaws
pub mod TreeLaws
pub mod KeysLaws
pub mod Alike
pub mod LayersRead
pub mod LayersMeaning
pub mod StrictTorrentLaws
