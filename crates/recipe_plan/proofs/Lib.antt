pub mod Spanning
pub mod Refusing
pub mod Making
pub mod Middle
pub mod Judging
pub mod Following
pub mod Putting
