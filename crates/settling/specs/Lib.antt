pub mod Span
pub mod Subtree
pub mod Path
pub mod AncestorLaws
pub mod SubtreeLaws
pub mod HeapLaws
pub mod PathLaws
pub mod SettledLaws
