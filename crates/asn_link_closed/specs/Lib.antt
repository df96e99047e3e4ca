pub mod Closed
pub mod Laws
pub mod OwnInstances
pub mod StayingNames
pub mod Staying
pub mod Lent
