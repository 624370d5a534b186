pub mod commands
pub mod compile
pub mod edit
pub mod sessions
