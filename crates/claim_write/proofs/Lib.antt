pub mod Owners
pub mod Pairs
pub mod Differing
pub mod ReadingBack
pub mod Calling
