pub mod expressions
pub mod Parses
pub mod Prelude
pub mod Stopped
pub mod Words
