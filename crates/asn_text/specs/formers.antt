pub mod at_least_one
