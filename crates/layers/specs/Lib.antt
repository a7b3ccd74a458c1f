pub mod Layers
pub mod KeysLaws
pub mod JudgeLaws
