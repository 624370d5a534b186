-- Helper. The files of `segments`.
pub mod Nested
pub mod Refused
pub mod Shares
