pub mod Lists
pub mod Walk
pub mod ListsLaws
pub mod PathsLaws
