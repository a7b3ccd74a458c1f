pub mod Cells
pub mod Entries
pub mod CellsLaws
pub mod EntriesLaws
