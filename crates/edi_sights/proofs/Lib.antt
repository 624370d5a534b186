pub mod Folded
pub mod Counted
pub mod Walking
pub mod Faulting
pub mod Agreeing
pub mod told
pub mod naming
