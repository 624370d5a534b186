-- Helper. The files of `values`.
pub mod Words
pub mod Operated
pub mod Asked
