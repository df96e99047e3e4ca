pub mod Made
pub mod Laws
pub mod Ways
pub mod Linked
