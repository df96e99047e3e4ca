pub mod AllTypes
pub mod SameLayers
pub mod SameTrees
pub mod Singles
pub mod Stays
pub mod Steady
pub mod Parts
