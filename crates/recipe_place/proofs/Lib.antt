pub mod Fronts
pub mod Plans
pub mod Placing
pub mod Descending
