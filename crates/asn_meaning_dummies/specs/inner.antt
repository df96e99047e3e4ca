-- What private contracts alone cite.
pub mod Handing
pub mod Information
pub mod Hanging
