pub mod Firsts
pub mod Asked
pub mod Views
pub mod Ascii
pub mod Equations
