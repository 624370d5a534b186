-- Words of contracts. The pages of a file, fed to an intake one after another.
use Rattle.std.specs.Prelude.{ℕ, Bool, true, false, Result, Ok, Err}
use Rattle.edi_calls.specs.declared.ends.Outside.{Outside}
use Rattle.edi_calls.specs.State.{File, State}
use Rattle.edi_compile.specs.Taken.{HasTaken}
use Rattle.edi_compile.specs.declared.intake.Intake.{Intake}
use Rattle.edi_session.specs.declared.end.SessionEnd.{SessionEnd}
use Rattle.edi_session.specs.Shell.{Shell}
use Rattle.edi_shell_io.specs.calls.Standing.{At, StandsIn}

module _ {C : Type 0} (at : C → State → ℕ → Type 0) (stands : C → Outside → State → Type 0) where
  -- the whole file was taken, or memory ran out
  abbrev pub Feeds : Result Bool SessionEnd → File → Intake → Shell → C → Type 0
  Feeds (Ok true) file intake s c = HasTaken intake file.bytes × At at c s
  Feeds (Ok false) file intake s c = At at c s
  Feeds (Err e) file intake s c = StandsIn stands s c
