pub mod Clearing
pub mod Rows
pub mod Indexing
pub mod Device
pub mod Cases
