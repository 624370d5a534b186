-- Helper. The files of `compile`.
pub mod Feeding
