pub mod Faults
pub mod Giving
pub mod Listed
pub mod Sink
pub mod Source
pub mod Stream
pub mod Sure
pub mod Taking
