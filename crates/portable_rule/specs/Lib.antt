pub mod Portable
pub mod Figures
pub mod Computed
