pub mod Structs
pub mod Cases
