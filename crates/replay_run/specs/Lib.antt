pub mod Traces
pub mod Parts
pub mod Pieces
