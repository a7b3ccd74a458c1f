pub mod Twins
pub mod TwinsLaws
pub mod Walk
pub mod WalkLaws
