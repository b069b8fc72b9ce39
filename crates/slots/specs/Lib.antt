pub mod Filled
pub mod Stored
