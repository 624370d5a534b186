-- Helper. The files of `derivation`.
pub mod Parts
pub mod Fits
pub mod Faults
