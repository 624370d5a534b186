use Rattle.edi_session.specs.Shell.{Shell, shown_by, state_in}
use Rattle.edi_shell_io.specs.calls.Standing.{At}
use Rattle.edi_shell.proofs.commands.SlotLines.{first_lines}
use Rattle.edi_shell.proofs.commands.catalogue.list_files.Given as goal

abbrev pub invariant-loop-i : goal.invariant-loop-i
invariant-loop-i g l = record {
  ready : g.C.ShellCalls.ready l.calls;
  lasts : g.C.ShellCalls.lasts l.initial.calls l.calls;
  exact : (s : Shell) → At g.C.ShellCalls.at l.initial.calls s → g.C.ShellCalls.tells l.calls →
      At g.C.ShellCalls.at l.calls (shown_by (first_lines l.i (state_in s).slots) s);
}
