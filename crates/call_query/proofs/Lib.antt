pub mod Querying
pub mod Seeking
pub mod Getting
