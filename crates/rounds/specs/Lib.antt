pub mod Block
pub mod Sums
pub mod SumsLaws
pub mod Stage
pub mod StageLaws
