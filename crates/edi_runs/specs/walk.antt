-- Helper. The files of `walk`.
pub mod Laws
pub mod Leaves
pub mod Walks
