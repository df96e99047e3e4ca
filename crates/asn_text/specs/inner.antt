-- What private contracts alone cite.
pub mod Parts
pub mod Walks
