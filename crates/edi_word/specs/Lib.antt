pub mod Integers
pub mod Words
pub mod Sets
pub mod SetWords
pub mod SetViews
