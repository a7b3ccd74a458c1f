pub mod Leaves
pub mod LeavesLaws
pub mod Taught
