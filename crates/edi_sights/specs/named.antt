-- Helper. The files of `named`.
pub mod Names
pub mod Naming
pub mod Views
pub mod Laws
pub mod Rows
