pub mod Words
pub mod Block
pub mod Stage
pub mod StageLaws
