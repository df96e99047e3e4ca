pub mod Stays
pub mod Warned
pub mod Judged
pub mod OfGiven
pub mod OnlyOrder
pub mod Needed
pub mod Answered
