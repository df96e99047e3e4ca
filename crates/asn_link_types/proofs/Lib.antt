pub mod Levels
pub mod Gathering
pub mod Counting
pub mod Contents
pub mod Places
pub mod Layers
