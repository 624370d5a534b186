-- Blocks that are called, in the code and in their meaning: a frame comes, and goes.
--
-- A call of the system does what it means: `proofs/calls/Asked.antt` has the claim for it, `system_does`, for the crates above. It speaks
-- of any program and process, so no function here can state it.
pub mod Grown
pub mod Cells
pub mod Comes
pub mod Goes
pub mod Callees
pub mod Entering
pub mod Returning
pub mod Blocks
pub mod Called
pub mod Calls
pub mod Resting
pub mod EnteredWork
pub mod CalledStep
pub mod ReturnedStep
pub mod Fed
pub mod Asking
pub mod Answered
pub mod Asked
