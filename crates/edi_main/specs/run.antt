-- Helper. The files of `run`.
pub mod Blaming
pub mod CodeRan
pub mod Demonstrated
pub mod FileSteps
pub mod OnKept
pub mod OnMounted
pub mod OnAccounts
pub mod OnWalked
pub mod OnWatched
pub mod RunMeans
pub mod WatchedFiles
