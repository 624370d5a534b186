pub mod Members
pub mod Choosing
pub mod Induction
pub mod Fewer
pub mod Worked
