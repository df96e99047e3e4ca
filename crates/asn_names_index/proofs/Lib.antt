pub mod Pairing
pub mod Showing
pub mod Looking
pub mod Seen
pub mod LastPlaces
pub mod Standing
