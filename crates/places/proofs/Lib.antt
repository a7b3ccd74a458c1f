pub mod PlacesLaws
pub mod Where
