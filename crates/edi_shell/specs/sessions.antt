-- Helper. The files of `sessions`.
pub mod Done
pub mod Ends
pub mod Prelude
