pub mod Shaping
pub mod Chain
pub mod Recording
pub mod Accepting
pub mod Answering
