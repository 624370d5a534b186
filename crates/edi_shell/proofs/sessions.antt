pub mod Onward
pub mod Failing
pub mod Kept
pub mod Commands
pub mod Prompted
pub mod Sessions
pub mod OnSystem
