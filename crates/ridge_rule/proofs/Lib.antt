pub mod Cases
pub mod Rules
pub mod Figures
