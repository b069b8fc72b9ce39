pub mod Layout
pub mod Taken
pub mod Pages
pub mod Contract
pub mod Cases
pub mod Edges
