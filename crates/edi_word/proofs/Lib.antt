pub mod IntLaws
pub mod SetLaws
pub mod Rows
