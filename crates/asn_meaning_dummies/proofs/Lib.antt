pub mod Handing
pub mod Informing
pub mod Circling
pub mod Arriving
