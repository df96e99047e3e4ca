pub mod Lines
pub mod Status
pub mod Words
pub mod Run
pub mod inner
pub mod Headline
