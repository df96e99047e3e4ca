mod Given
mod Long
mod Meaning
mod Left
mod ByName
mod Making
