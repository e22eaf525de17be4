pub mod Fitting
pub mod Ranging
