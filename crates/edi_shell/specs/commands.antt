-- Helper. The files of `commands`.
pub mod Taking
pub mod Files
pub mod Rows
