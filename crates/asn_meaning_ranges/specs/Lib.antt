pub mod Sets
pub mod Chains
pub mod Parents
pub mod inner
