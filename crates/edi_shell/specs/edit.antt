-- Helper. The files of `edit`.
pub mod Chain
pub mod Prelude
pub mod Rows
