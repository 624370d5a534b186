pub mod boot
pub mod code
pub mod disk
pub mod run
pub mod steps
pub mod text
