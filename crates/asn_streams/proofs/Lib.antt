pub mod SeveralReads
pub mod SeveralWrites
pub mod Unchanged
