pub mod Standing
pub mod Lines
pub mod Opening
pub mod Rows
pub mod Running
pub mod SlotLines
pub mod Keeping
pub mod Entered
