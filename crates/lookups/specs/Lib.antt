pub mod Rules
pub mod Lookup
pub mod Figures
pub mod Computed
