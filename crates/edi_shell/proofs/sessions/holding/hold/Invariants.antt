use Rattle.std.proofs.Common.{◌≡◌, ◌+◌, ◌-◌, ◌*◌, ◌<◌, ◌≤◌, ◌^◌, length}
use Rattle.edi_calls.specs.State.{most_bytes}
use Rattle.edi_session.specs.Shell.{Shell}
use Rattle.edi_shell.specs.sessions.Ends.{Awaits}
use Rattle.edi_shell.proofs.sessions.Sessions.{HasCome}
use Rattle.edi_shell.proofs.sessions.holding.hold.Given as goal

abbrev pub invariant-lines : goal.invariant-lines
invariant-lines g l = record {
  ready : g.C.ShellCalls.ready l.calls;
  limit : l.taken ≤ 4194304;
  room : most_bytes ≤ length l.room;
  source : l.choices.source ≡ l.initial.choices.source;
  lasts : g.C.ShellCalls.lasts l.initial.calls l.calls;
  few : l.choices.drawn + (4194304 - l.taken) * l.initial.bound ≤ l.initial.choices.drawn + 4194304 * l.initial.bound;
  exact : l.initial.choices.drawn + 4194304 * l.initial.bound < 2 ^ 64 → (start : Shell)
      → Awaits g.C.ShellCalls.at start 0 l.initial.choices.drawn l.initial.calls → g.C.ShellCalls.tells l.calls →
      HasCome l.initial.bound l.initial.choices.source g.C.ShellCalls.at g.C.ShellCalls.stands start l.taken l.choices.drawn l.calls;
}

abbrev pub decreases-lines : goal.decreases-lines
decreases-lines g l = 4194304 - l.taken
