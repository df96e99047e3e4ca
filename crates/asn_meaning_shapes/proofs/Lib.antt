pub mod Showing
pub mod Membering
pub mod Shaping
pub mod Putting
pub mod Listing
pub mod Judging
pub mod Naming
