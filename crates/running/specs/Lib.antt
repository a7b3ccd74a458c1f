pub mod Bursts
pub mod BurstsLaws
pub mod Cuttings
