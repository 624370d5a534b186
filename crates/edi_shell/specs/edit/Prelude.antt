-- Words of contracts. Those in which the contracts of an editing are written, from here and from below.
pub use Rattle.edi_calls.specs.Choice.{Choices}
pub use Rattle.edi_edit.specs.Editing.{Editing}
pub use Rattle.edi_session.specs.Session.{EditsBy}
pub use Rattle.edi_session.specs.Shell.{Shell}
pub use Rattle.edi_shell.specs.commands.Taking.{IsLeftSo}
pub use Rattle.edi_shell_io.specs.calls.Standing.{At, IsLeft}
pub use Rattle.edi_shell.specs.edit.Chain.{LinesCome}
pub use Rattle.edi_shell.specs.edit.Rows.{Edits, OpensText, SaysOn, puts}
