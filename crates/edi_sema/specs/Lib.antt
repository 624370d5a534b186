pub mod Calls
pub mod Walks
pub mod Frames
pub mod Blocks
pub mod Splits
pub mod Bodies
pub mod Whole
