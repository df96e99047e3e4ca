pub mod Setting
pub mod Turning
pub mod Trying
pub mod Chaining
pub mod Elements
pub mod Narrowing
pub mod Ranking
pub mod Passed
