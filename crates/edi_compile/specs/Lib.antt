pub mod codable
pub mod Compiled
pub mod Meant
pub mod Taken
