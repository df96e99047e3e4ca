pub mod Walking
pub mod Applying
