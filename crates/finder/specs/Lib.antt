pub mod Finds
pub mod Contract
pub mod Searching
pub mod Cases
