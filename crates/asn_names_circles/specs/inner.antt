-- What private contracts alone cite.
pub mod Nodes
pub mod Followed
