pub mod Copies
pub mod MemoryLaws
pub mod Rows
