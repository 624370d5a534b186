-- The ground of the theorem on generated code: where things stand, what a stretch of one process leaves, and what is claimed of
-- each construct, for the crates above. `specs/places/` has the claims, which speak of any program and process, so no function here can
-- state them.
--
-- What single instructions do to variables and operands: `proofs/places/Instructed.antt` has it all as one record, `instructed`, for the
-- crates above.
--
-- Variables, their parts and arguments: the machine finds the variable or part that the meaning names, loads, stores and passes
-- it. `proofs/places/Placed.antt` has it all as one record, `places`, for the crates above; it speaks of any program and process, so no
-- function here can state it.
pub mod Places
pub mod Long
pub mod Located
pub mod Doing
pub mod Free
pub mod Rows
pub mod Nested
pub mod Knot
pub mod Rises
pub mod Cells
pub mod Ancestors
pub mod Slots
pub mod Stores
pub mod Effects
pub mod Steps
pub mod Variables
pub mod Binding
pub mod Instructed
pub mod Formals
pub mod Pointing
pub mod Whole
pub mod Roots
pub mod PartSteps
pub mod Elements
pub mod Arguments
pub mod Passing
pub mod Procedures
pub mod Placed
