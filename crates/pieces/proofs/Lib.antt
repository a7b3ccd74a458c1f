pub mod Ways
pub mod Marking
pub mod Halves
pub mod HybridLaws
pub mod MarkedLaws
pub mod PiecesLaws
