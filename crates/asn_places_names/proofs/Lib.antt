pub mod Listed
pub mod Marking
pub mod Missing
pub mod Owning
pub mod Setting
