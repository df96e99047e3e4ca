pub mod Errors
pub mod Syntax
pub mod Plain
