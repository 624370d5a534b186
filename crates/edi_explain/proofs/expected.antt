pub mod Swaps
pub mod OneKind
pub mod Reaching
pub mod Faulty
pub mod Costs
pub mod Rows
pub mod Numbers
pub mod Symbols
