pub mod Blocks
pub mod Objects
pub mod Devices
pub mod Exits
