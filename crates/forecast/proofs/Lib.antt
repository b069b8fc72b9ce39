pub mod Ways
pub mod Exactly
pub mod Unique
pub mod Bounds
pub mod Cases
