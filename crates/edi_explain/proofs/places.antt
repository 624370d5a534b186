pub mod Skips
pub mod There
pub mod Numerals
