pub mod Ended
pub mod Blamed
pub mod Last
pub mod Once
pub mod One
