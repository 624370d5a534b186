pub mod Activities
pub mod Numbers
pub mod Operators
pub mod Plain
pub mod Starts
pub mod Steps
