-- Helper. The files of `machine`.
pub mod Expanded
