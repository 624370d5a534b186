pub mod Calls
pub mod Meant
pub mod Known
