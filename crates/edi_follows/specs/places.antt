-- Helper. The files of `places`.
pub mod Coded
pub mod Spots
pub mod Walks
pub mod Scene
pub mod Claims
pub mod Constructs
pub mod Located
pub mod Follows
pub mod Steps
pub mod Related
pub mod Lands
pub mod Instructions
