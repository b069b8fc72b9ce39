pub mod Exactly
pub mod Cases
pub mod Edges
pub mod Unique
