-- What private contracts alone cite.
pub mod Answer
pub mod Grown
