pub mod Executing
pub mod Runs
