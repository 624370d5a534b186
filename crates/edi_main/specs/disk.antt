-- Helper. The files of `disk`.
pub mod OnDisk
pub mod OnDrive
