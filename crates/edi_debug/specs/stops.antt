-- Helper. The files of `stops`.
pub mod Kept
pub mod Stops
pub mod Watching
pub mod Near
pub mod Seen
pub mod Underway
pub mod Rows
