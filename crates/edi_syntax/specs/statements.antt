-- Helper. The files of `statements`.
pub mod Lines
pub mod Guards
