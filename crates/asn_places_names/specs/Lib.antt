pub mod Occurrences
pub mod inner
