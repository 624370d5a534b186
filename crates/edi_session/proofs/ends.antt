pub mod Throughout
pub mod Advancing
pub mod Differing
