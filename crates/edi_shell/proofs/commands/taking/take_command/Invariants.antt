use Rattle.std.proofs.Common.{◌≡◌, ◌-◌, true}
use Rattle.edi_session.specs.Shell.{Shell, next_line}
use Rattle.edi_shell_io.specs.calls.Standing.{At}
use Rattle.edi_shell.specs.commands.Taking.{LineUnderway}
use Rattle.edi_shell.proofs.commands.Lines.{TakesOn}
use Rattle.edi_shell.proofs.commands.taking.take_command.Given as goal

abbrev pub invariant-bytes : goal.invariant-bytes
invariant-bytes g l = record {
  taking : TakesOn g.C.ShellCalls.ready g.C.ShellCalls.lasts l.initial.taken l.taken l.line.items l.initial.calls l.calls;
  exact : (s : Shell) → s.taken ≡ l.initial.taken → At g.C.ShellCalls.at l.initial.calls s → g.C.ShellCalls.tells l.calls →
      LineUnderway g.C.ShellCalls.at true 81 (next_line true s) l.line.items l.taken l.calls;
}

abbrev pub decreases-bytes : goal.decreases-bytes
decreases-bytes g l = 4194304 - l.taken
