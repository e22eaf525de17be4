pub mod Checks
pub mod Search
pub mod Lists
pub mod Parts
