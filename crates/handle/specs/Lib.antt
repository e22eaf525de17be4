pub mod Ranges
pub mod Handles
pub mod Parts
