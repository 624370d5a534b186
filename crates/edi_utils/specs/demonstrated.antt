-- Helper. The files of `demonstrated`.
pub mod Demonstrated
pub mod Symbols
pub mod Tree
