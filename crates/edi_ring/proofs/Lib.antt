pub mod Elements
pub mod Chain
pub mod Arrays
pub mod Homes
pub mod Moves
pub mod New
pub mod Calls
