pub mod inner
pub mod Nodes
