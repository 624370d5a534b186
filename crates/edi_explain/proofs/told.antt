pub mod Strays
pub mod One
pub mod Exactly
pub mod Whole
pub mod Cutting
pub mod Parts
pub mod Marked
