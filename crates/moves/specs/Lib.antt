pub mod Moves
pub mod Cases
