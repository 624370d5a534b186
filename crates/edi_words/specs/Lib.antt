pub mod Words
pub mod View
pub mod Inside
pub mod Rows
