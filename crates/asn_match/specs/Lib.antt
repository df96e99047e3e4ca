pub mod Chain
pub mod Table
pub mod Looks
pub mod Texts
pub mod inner
