pub mod MakingConstraints
pub mod Values
