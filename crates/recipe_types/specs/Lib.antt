pub mod Typemaps
pub mod Recipes
pub mod Parts
