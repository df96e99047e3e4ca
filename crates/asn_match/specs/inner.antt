pub mod Given
pub mod Dues
