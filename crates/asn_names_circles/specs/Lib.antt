pub mod Circles
pub mod inner
