-- What private contracts alone cite.
pub mod Asked
pub mod Beginning
pub mod Items
pub mod Fields
