mod Answers
mod Picks
pub mod AskingLaws
pub mod PickingLaws
