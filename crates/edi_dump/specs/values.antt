-- Helper. The files of `values`.
pub mod Texts
pub mod Words
pub mod Views
pub mod Laws
pub mod Rows
