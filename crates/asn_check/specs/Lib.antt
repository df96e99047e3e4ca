pub mod Judged
pub mod Warnings
pub mod Needed
pub mod Linked
pub mod Listing
pub mod KeptMeaning
