pub mod Numbers
pub mod Runs
pub mod Keeping
pub mod Steps
pub mod Readings
pub mod Limited
