-- What private contracts alone cite.
pub mod Binding
pub mod Bringing
pub mod Numbered
