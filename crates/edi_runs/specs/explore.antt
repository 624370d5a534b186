-- Helper. The files of `explore`.
pub mod Explorations
pub mod Input
pub mod Keeping
pub mod Laws
pub mod Lines
pub mod Openness
pub mod Orders
pub mod Records
pub mod Rows
pub mod Told
