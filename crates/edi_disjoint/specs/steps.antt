-- Helper. The files of `steps`.
pub mod Own
pub mod Plain
pub mod Turns
pub mod First
pub mod Inner
