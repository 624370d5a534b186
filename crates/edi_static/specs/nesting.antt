-- Helper. The files of `nesting`.
pub mod Nesting
pub mod Rows
