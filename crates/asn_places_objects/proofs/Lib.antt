pub mod Owning
pub mod Governing
pub mod Beginning
pub mod Setting
pub mod Becoming
pub mod Settling
