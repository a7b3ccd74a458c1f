pub mod Examples
pub mod HalvesLaws
pub mod StreamLaws
