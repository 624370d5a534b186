pub mod Addresses
pub mod Inside
pub mod Jumps
pub mod JumpsListed
pub mod Located
mod Processes
mod Ends
mod Puts
pub mod valued
