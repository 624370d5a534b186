mod Explored
mod Keeping
pub mod Opened
mod Ordered
mod Reading
mod Runs
