use Rattle.std.proofs.Common.{◌≡◌, ◌-◌, ◌≤◌, false, length}
use Rattle.std.specs.Prelude.{vec_capacity}
use Rattle.edi_edit.specs.Lines.{has_feed}
use Rattle.edi_session.specs.Shell.{Shell, next_line}
use Rattle.edi_shell_io.specs.calls.Standing.{At}
use Rattle.edi_shell.specs.commands.Taking.{LineUnderway}
use Rattle.edi_shell.proofs.commands.Lines.{TakesOn}
use Rattle.edi_shell.proofs.edit.taking.take_line.Given as goal

abbrev pub invariant-bytes : goal.invariant-bytes
invariant-bytes g l = record {
  taking : TakesOn g.C.ShellCalls.ready g.C.ShellCalls.lasts l.initial.taken l.taken l.line.items l.initial.calls l.calls;
  room : 261121 ≤ vec_capacity l.line;
  short : length l.line.items ≤ 261121;
  one_line : has_feed l.line.items ≡ false;
  exact : (s : Shell) → s.taken ≡ l.initial.taken → At g.C.ShellCalls.at l.initial.calls s → g.C.ShellCalls.tells l.calls →
      LineUnderway g.C.ShellCalls.at false 261121 (next_line false s) l.line.items l.taken l.calls;
}

abbrev pub decreases-bytes : goal.decreases-bytes
decreases-bytes g l = 4194304 - l.taken
