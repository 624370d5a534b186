-- Helper. The files of `watch`.
pub mod Limit
pub mod Logs
pub mod Watchable
