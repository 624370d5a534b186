-- Helper. The files of `calls`.
pub mod Standing
pub mod OnSystem
pub mod Lasting
