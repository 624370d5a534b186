-- Helper. The files of `names`.
pub mod Uses
pub mod Visible
pub mod Rows
