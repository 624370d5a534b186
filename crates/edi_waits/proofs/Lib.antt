pub mod Lists
pub mod CallLines
mod Naming
mod Listed
pub mod Compared
pub mod Ordered
mod Left
mod Seen
mod Rounds
mod Asked
mod Whole
