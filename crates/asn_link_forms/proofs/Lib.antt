pub mod Parts
pub mod PlainFree
