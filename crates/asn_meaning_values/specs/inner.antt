-- What private contracts alone cite.
pub mod Asking
pub mod Following
pub mod Gathering
pub mod Reading
pub mod Rows
pub mod Standing
pub mod Structs
pub mod Values
