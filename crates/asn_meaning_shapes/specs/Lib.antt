pub mod Answers
pub mod Trees
pub mod Members
pub mod Parts
pub mod ByName
pub mod inner
