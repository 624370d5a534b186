-- Helper. The files of `on`.
pub mod Timelines
pub mod Laws
