pub mod Ridge
pub mod Figures
pub mod Computed
