pub mod Halves
pub mod Merges
pub mod Permuted
pub mod Ordering
