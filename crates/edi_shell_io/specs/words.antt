-- Helper. The files of `words`.
pub mod Operands
