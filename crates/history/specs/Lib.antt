pub mod Growing
pub mod Parts
pub mod Answers
pub mod HistoryOf
