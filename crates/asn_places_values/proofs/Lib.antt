pub mod Dividing
pub mod Governing
pub mod Running
