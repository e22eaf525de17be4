pub mod Table
pub mod LongFiles
