pub mod SavedExample
pub mod HybridJudged
pub mod OneRoundAlone
