pub mod Accepting
pub mod Comparing
pub mod Holding
pub mod Inner
pub mod Listing
pub mod Singling
pub mod Spelling
pub mod Passed
