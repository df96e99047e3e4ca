pub mod ComponentsInOrder
pub mod EqualByParts
