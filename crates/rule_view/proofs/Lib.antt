pub mod Chains
pub mod Pieces
pub mod Instances
pub mod Whole
