-- Helper. The files of `expected`.
pub mod MayStand
pub mod Reaches
pub mod Opened
pub mod Numbered
pub mod Awaited
pub mod Advances
