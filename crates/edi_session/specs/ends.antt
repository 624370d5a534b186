-- Helper. The files of `ends`.
pub mod Laws
