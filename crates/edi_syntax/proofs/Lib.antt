pub mod Places
pub mod Once
pub mod Waiting
pub mod Stopping
