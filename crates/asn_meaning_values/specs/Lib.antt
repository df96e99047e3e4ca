pub mod Bits
pub mod Braces
pub mod Denotation
pub mod Leaves
pub mod Texts
pub mod inner
