pub mod Slots
pub mod Shown
pub mod Since
pub mod Use
