pub mod Cuts
pub mod Digits
pub mod Draws
pub mod Readings
pub mod Writing
pub mod Limited
