pub mod Asked
pub mod Equations
pub mod Views
