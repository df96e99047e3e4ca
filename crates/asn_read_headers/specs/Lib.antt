pub mod Comments
pub mod Defaults
pub mod Identifiers
pub mod Symbols
pub mod Imports
pub mod Headers
