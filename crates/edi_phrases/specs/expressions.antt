-- Helper. The files of `expressions`.
pub mod Strings
