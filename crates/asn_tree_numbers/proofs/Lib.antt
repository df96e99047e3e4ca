pub mod Counting
pub mod Distinct
pub mod Filling
