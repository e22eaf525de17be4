pub mod Handles
pub mod Accesses
