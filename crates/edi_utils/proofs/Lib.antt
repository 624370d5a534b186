pub mod Numbered
pub mod Places
pub mod Texts
pub mod Listed
pub mod InstructionNames
