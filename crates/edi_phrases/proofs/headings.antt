pub mod Pushes
pub mod Seen
