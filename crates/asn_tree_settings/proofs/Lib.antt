pub mod Numerals
pub mod RowsPassed
pub mod TextsReadBack
