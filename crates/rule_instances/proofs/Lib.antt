pub mod Stepping
pub mod Holes
