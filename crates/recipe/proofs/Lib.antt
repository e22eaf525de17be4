pub mod Judging
pub mod Planning
pub mod Flattening
