pub mod Keys
pub mod Testing
pub mod Filling
