pub mod Dummies
pub mod Bindings
pub mod Definitions
pub mod Index
pub mod Classes
