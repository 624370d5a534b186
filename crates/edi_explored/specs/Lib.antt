pub mod Moves
pub mod Reached
pub mod Within
pub mod Stint
pub mod Covered
pub mod machine
pub mod Rows
