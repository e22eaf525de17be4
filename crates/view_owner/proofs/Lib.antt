pub mod Trying
pub mod Firsts
pub mod Instances
pub mod Whole
