pub mod explore
pub mod walk
pub mod watch
