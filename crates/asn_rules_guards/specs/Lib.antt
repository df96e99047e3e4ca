pub mod Lexical
pub mod Guards
pub mod Enumerations
pub mod Allows
pub mod Outside
pub mod inner
