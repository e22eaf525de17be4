pub mod Filling
pub mod Typemaps
pub mod Fronts
