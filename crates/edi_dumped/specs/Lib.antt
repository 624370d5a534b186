pub mod Dumps
pub mod Given
pub mod Instances
pub mod One
pub mod Standing
pub mod StandingDumps
