pub mod Failures
pub mod Gaps
pub mod Parts
pub mod Positions
pub mod Sameness
pub mod Standing
pub mod Tries
pub mod Walks
