pub mod Offsets
pub mod Parts
pub mod Accesses
pub mod Calls
