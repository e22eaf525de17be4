pub mod Reading
pub mod Writing
pub mod Etypes
pub mod Walking
pub mod Gathering
