pub mod Graphs
pub mod Reach
pub mod inner
pub mod Drawn
