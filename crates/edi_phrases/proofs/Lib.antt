pub mod Symbols
pub mod Moves
pub mod Fronts
pub mod Pushes
pub mod Opened
pub mod Heads
