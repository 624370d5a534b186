-- The statements of functions and critical phases do what they mean: `proofs/steps/Phases.antt` has the lemma for each of them,
-- `statements`, for the crates above. It speaks of any program and process, so no function here can state it.
--
-- One step of one process, on the machine as in the meaning.
pub mod Passing
pub mod Clauses
pub mod Loops
pub mod Phases
pub mod Local
pub mod Chosen
pub mod Stepped
