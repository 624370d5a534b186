pub mod Chained
pub mod Left
pub mod Texts
pub mod Walking
