pub mod Forecasts
pub mod Contract
pub mod Cases
