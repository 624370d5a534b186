pub mod Entries
pub mod Example
pub mod Known
pub mod Limits
pub mod Loops
pub mod Slots
pub mod Tables
pub mod ZeroValues
