pub mod Booleans
pub mod Bare
pub mod Items
pub mod Numbered
pub mod Exact
pub mod FarNumbers
pub mod Numbers
pub mod SettingTexts
