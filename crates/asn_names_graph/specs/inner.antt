-- What private contracts alone cite.
pub mod Numbered
pub mod Shown
pub mod Starts
pub mod State
pub mod Told
pub mod Valid
pub mod Spread
pub mod Edges
