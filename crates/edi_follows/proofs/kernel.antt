-- From what one process does alone to what all do: the kernel of the machine beside the kernel of the meaning. `proofs/kernel/Steps.antt`
-- has the claim for a step, `step_claim`, for the crates above.
pub mod Lifting
pub mod Kernels
pub mod Attempted
pub mod Meaning
pub mod Steps
pub mod Settled
pub mod Going
pub mod Leaving
pub mod Moved
pub mod Forking
pub mod Children
pub mod Forked
