pub mod Drawn
pub mod Kept
pub mod Lines
pub mod Limit
