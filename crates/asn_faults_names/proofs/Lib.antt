pub mod Choosing
pub mod Giving
pub mod Fielding
pub mod Heading
pub mod Arguing
pub mod Placing
