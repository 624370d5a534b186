-- Helper. The files of `valued`.
pub mod Sizes
pub mod Sets
pub mod Told
pub mod Deep
