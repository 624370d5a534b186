pub mod Strings
pub mod Operators
