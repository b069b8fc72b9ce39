pub mod Decimal
pub mod Texts
pub mod Example
