use Rattle.std.proofs.Common.{◌≡◌, ◌-◌, ◌≤◌, length}
use Rattle.edi_session.specs.Shell.{Shell, next_text}
use Rattle.edi_shell_io.specs.calls.Standing.{At}
use Rattle.edi_shell.proofs.commands.Entered.{TextUnderway}
use Rattle.edi_shell.proofs.commands.entering.take_text.Given as goal

abbrev pub invariant-bytes : goal.invariant-bytes
invariant-bytes g l = record {
  ready : g.C.ShellCalls.ready l.calls;
  limit : l.taken ≤ 4194304;
  later : l.initial.taken ≤ l.taken;
  few : l.progress.length ≤ l.taken;
  same : length l.room ≡ length l.initial.room;
  lasts : g.C.ShellCalls.lasts l.initial.calls l.calls;
  exact : (s : Shell) → s.taken ≡ l.initial.taken → At g.C.ShellCalls.at l.initial.calls s → g.C.ShellCalls.tells l.calls →
      TextUnderway g.C.ShellCalls.at (next_text s) l.progress.length l.progress.whole l.progress.dot l.room l.taken l.calls;
}

abbrev pub decreases-bytes : goal.decreases-bytes
decreases-bytes g l = 4194304 - l.taken
