-- Words of contracts. Those in which the contracts of commands and of sessions are written, from here and from below.
pub use Rattle.edi_told.specs.Told.{WhereTold}
pub use Rattle.edi_calls.specs.State.{most_bytes}
pub use Rattle.edi_session.specs.Shell.{Shell, session_on}
pub use Rattle.edi_shell.specs.commands.Taking.{IsLeftSo, Stays}
pub use Rattle.edi_shell_io.specs.calls.Standing.{failed_by}
pub use Rattle.edi_shell.specs.edit.Chain.{LinesCome}
pub use Rattle.edi_shell.specs.sessions.Ends.{Awaits, ends_by_fault, SessionEnds, SessionLeaves, SessionStops}
