pub mod Believed
pub mod Items
pub mod Links
pub mod Rows
