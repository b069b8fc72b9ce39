pub mod Writes
pub mod Records
pub mod Adds
pub mod Lowest
pub mod Contract
pub mod Cases
pub mod Edges
