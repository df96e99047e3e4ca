-- What private contracts alone cite.
pub mod Wides
pub mod Ends
pub mod Joining
