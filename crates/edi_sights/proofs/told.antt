-- That the `when`s that are met are those of the unit.
pub mod Told
pub mod Blocks
pub mod Slots
pub mod Statements
pub mod Declarations
pub mod Programs
pub mod Met
