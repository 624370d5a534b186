-- Helper. The files of `places`.
pub mod Places
pub mod Cuts
