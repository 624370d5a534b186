pub mod Conditions
pub mod Texts
pub mod Exact
pub mod Trees
pub mod EdisonIsFair
pub mod Start
pub mod Open
