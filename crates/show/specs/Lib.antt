pub mod Show
pub mod Written
pub mod Adds
pub mod Example
