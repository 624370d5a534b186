-- The log of a watched program, as a definition, and that a run of the code gives it. No code: `edi_debug` has the calls.
pub mod Same
pub mod Ends
pub mod Meant
pub mod Forks
pub mod Stinted
pub mod Rounds
