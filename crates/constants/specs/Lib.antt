pub mod Rule
pub mod Constants
pub mod ConstantsLaws
