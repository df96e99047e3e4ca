pub mod Equality
pub mod Making
