pub mod Enumeration
pub mod Laws
pub mod inner
