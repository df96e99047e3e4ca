mod Holding
pub mod Spanning
pub mod Scoping
pub mod Listing
pub mod Fields
pub mod Finding
pub mod Giving
pub mod Numbers
pub mod Due
pub mod Walking
pub mod Leading
pub mod Circling
pub mod Placing
pub mod Trailing
pub mod Passing
