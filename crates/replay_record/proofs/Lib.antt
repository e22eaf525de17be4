pub mod Counting
pub mod Standing
