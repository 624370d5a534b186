pub mod Cuts
pub mod Table
