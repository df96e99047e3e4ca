pub mod Retagged
pub mod Unchanged
pub mod References
pub mod Laws
