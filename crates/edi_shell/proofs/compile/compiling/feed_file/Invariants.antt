use Rattle.std.proofs.Common.{◌≡◌, ◌*◌, take, Some}
use Rattle.edi_calls.specs.State.{File}
use Rattle.edi_compile.specs.Taken.{HasTaken}
use Rattle.edi_session.specs.Files.{file_in}
use Rattle.edi_session.specs.Shell.{Shell}
use Rattle.edi_shell_io.specs.calls.Standing.{At}
use Rattle.edi_shell.proofs.compile.compiling.feed_file.Given as goal

abbrev pub invariant-loop-i : goal.invariant-loop-i
invariant-loop-i g l = record {
  ready : g.C.ShellCalls.ready l.calls;
  lasts : g.C.ShellCalls.lasts l.initial.calls l.calls;
  exact : (s : Shell) (file : File) → At g.C.ShellCalls.at l.initial.calls s → g.C.ShellCalls.tells l.calls → file_in s l.f ≡ Some file →
      HasTaken l.intake (take (512 * l.i) file.bytes) × At g.C.ShellCalls.at l.calls s;
}
