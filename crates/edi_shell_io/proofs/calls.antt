pub mod Failing
pub mod Steps
pub mod Options
pub mod Told
pub mod Executed
pub mod Faulted
pub mod Pages
