pub mod Constants
pub mod Handles
pub mod Parts
