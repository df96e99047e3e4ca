pub mod EnvironmentSums
pub mod InPlace
pub mod ListsUnderVariants
