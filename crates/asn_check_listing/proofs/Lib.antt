pub mod Led
pub mod Marked
pub mod Doubled
pub mod Here
pub mod Members
pub mod Forms
