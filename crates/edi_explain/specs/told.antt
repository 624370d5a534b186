-- Helper. The files of `told`.
pub mod Words
pub mod Groups
pub mod Source
pub mod Stray
pub mod Scanned
pub mod Notes
pub mod Advice
pub mod Names
pub mod Tables
pub mod Explained
pub mod Rows
