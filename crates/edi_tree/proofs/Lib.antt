pub mod Marks
pub mod Greatest
pub mod Loops
pub mod Deepest
pub mod Puts
pub mod Decimals
pub mod Scans
