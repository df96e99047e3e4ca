-- What private contracts alone cite.
pub mod Governing
pub mod Lacks
pub mod Paths
pub mod Sorts
