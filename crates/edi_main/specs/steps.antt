-- Helper. The files of `steps`.
pub mod Loaded
pub mod NotMounted
pub mod OnFiles
pub mod OnTerminal
pub mod Opening
