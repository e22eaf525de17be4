pub mod Building
pub mod Standard
pub mod Longer
pub mod Integers
pub mod Extremes
pub mod Bounds
pub mod Shapes
