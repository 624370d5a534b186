pub mod Stored
pub mod Scope
pub mod Emits
pub mod Writable
pub mod InScope
pub mod Aimed
pub mod Mapped
