pub mod Flattening
pub mod Parts
