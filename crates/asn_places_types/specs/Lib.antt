pub mod Forms
pub mod Sites
pub mod Instances
pub mod inner
