pub mod Memory
pub mod Copied
pub mod Segments
