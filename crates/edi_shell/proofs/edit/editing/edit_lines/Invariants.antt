use Rattle.std.proofs.Common.{◌≡◌, ℕ, ◌-◌, ◌≤◌}
use Rattle.std.specs.Prelude.{vec_capacity}
use Rattle.edi_calls.specs.Choice.{Choices}
use Rattle.edi_session.specs.Shell.{Shell, editing}
use Rattle.edi_shell_io.specs.calls.Standing.{At}
use Rattle.edi_shell.proofs.edit.Coming.{Underway}
use Rattle.edi_shell.proofs.edit.editing.edit_lines.Given as goal

abbrev pub invariant-lines : goal.invariant-lines
invariant-lines g l = record {
  ready : g.C.ShellCalls.ready l.calls;
  limit : l.taken ≤ 4194304;
  later : l.initial.taken ≤ l.taken;
  room : 261121 ≤ vec_capacity l.line;
  lasts : g.C.ShellCalls.lasts l.initial.calls l.calls;
  exact : (bound : ℕ) (choices : Choices) (s : Shell) → s.taken ≡ l.initial.taken → s.mode ≡ editing l.f l.initial.text
      → At g.C.ShellCalls.at l.initial.calls s → g.C.ShellCalls.tells l.calls → Underway bound choices g.C.ShellCalls.at s l.taken l.f l.text l.calls;
}

abbrev pub decreases-lines : goal.decreases-lines
decreases-lines g l = 4194304 - l.taken
