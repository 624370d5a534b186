pub mod Places
pub mod Waits
pub mod Told
pub mod Names
pub mod Runs
pub mod Ends
pub mod Ended
pub mod Left
