pub mod Paths
pub mod Strings
pub mod Syntax
pub mod Types
