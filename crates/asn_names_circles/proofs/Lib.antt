pub mod Needed
pub mod Circling
pub mod Followed
