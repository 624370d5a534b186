-- Helper. The files of `boot`.
pub mod OnObjects
pub mod SessionCame
