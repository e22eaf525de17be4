pub mod Lending
pub mod Limiting
pub mod Refusing
