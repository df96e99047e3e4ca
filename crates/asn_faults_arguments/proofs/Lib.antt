pub mod Wronging
pub mod Lacking
