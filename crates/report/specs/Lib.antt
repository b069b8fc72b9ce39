pub mod Prints
pub mod Contract
pub mod Example
pub mod Edges
