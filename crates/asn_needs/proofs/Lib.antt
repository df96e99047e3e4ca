pub mod Pigeons
pub mod Heights
pub mod OneFault
pub mod Passing
