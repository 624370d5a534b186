-- Helper. The files of `lines`.
pub mod Endings
