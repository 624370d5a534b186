-- Helper. The files of `codable`.
pub mod Laws
pub mod Rows
