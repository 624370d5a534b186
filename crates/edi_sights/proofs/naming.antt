-- Helper. The files of `naming`.
pub mod Seen
pub mod Folding
pub mod Counts
pub mod Declared
pub mod Headed
pub mod Blocks
pub mod Split
pub mod Procedures
