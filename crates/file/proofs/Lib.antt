pub mod Checking
pub mod Answering
pub mod Getting
pub mod Readable
pub mod Writable
