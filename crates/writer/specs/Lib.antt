pub mod Write
pub mod WriteLaws
pub mod WrittenReads
pub mod Steps
pub mod StepsLaws
