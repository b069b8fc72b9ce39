pub mod Structs
pub mod Whole
pub mod Cases
