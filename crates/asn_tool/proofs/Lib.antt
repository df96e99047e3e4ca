pub mod Promised
pub mod Validity
pub mod Judged
pub mod Spelled
