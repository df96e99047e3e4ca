-- What private contracts alone cite.
pub mod Made
pub mod Parts
