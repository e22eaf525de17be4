pub mod Owners
pub mod Writes
