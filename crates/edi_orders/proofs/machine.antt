pub mod Cuts
pub mod Turned
pub mod Enough
pub mod Orders
