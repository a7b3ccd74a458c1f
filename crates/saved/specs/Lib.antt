pub mod Clauses
pub mod Form
pub mod Saved
pub mod Ahead
pub mod Save
