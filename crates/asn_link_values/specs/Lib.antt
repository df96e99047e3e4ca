pub mod Choosing
pub mod Subjects
pub mod Values
pub mod Sets
pub mod inner
