pub mod Leaves
pub mod Braces
