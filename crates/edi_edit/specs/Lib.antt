pub mod Lines
pub mod Editing
pub mod Undoing
pub mod Steps
