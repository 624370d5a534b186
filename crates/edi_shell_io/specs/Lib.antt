pub mod calls
pub mod lines
pub mod words
