pub mod Scope
pub mod Listed
pub mod Standing
