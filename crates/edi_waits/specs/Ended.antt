-- Words of contracts. The end of a run of a code, where processes are told.
use Rattle.std.specs.Prelude.{◌≡◌, ℕ, List, Option, Some, ⊤}
use Rattle.edi_calls.specs.Choice.{Choices}
use Rattle.edi_calls.specs.Names.{Name}
use Rattle.edi_calls.specs.Outcome as outcome
use Rattle.edi_calls.specs.State.{State}
use Rattle.edi_target.specs.Check.{CodeParts}
use Rattle.edi_target.specs.Fetch.{fetch}
use Rattle.edi_target.specs.Mach.{Machine}
use Rattle.edi_trace.specs.Drawn.{Drawn}
use Rattle.edi_kernel.specs.declared.ends.Ending.{Ending}
use Rattle.edi_kernel.specs.declared.ends.Ending.TheVariants as ending
use Rattle.edi_kernel.specs.Enders.{ender_from_start}
use Rattle.edi_kernel.specs.Kernel.{EndsAs}
use Rattle.edi_kernel.specs.Runs.{EndsAfter}
use Rattle.edi_waits.specs.Ends.{AreAtEnd, AtEnd, IsSeen, has_broken}

-- the last of so many instructions was one of this process; at a standstill nothing is said of it
abbrev pub RanLast : CodeParts → State → (bound : ℕ) → Choices → (before steps : ℕ) → outcome.Ending → Name → Type 0
RanLast code system bound choices before steps outcome.standstill p = ⊤
RanLast code system bound choices before steps end p = ender_from_start (fetch code.words) code.entry code.calls system bound choices before steps ≡ Some p

-- THE END of a run of this code, where so many choices had been drawn before it: the run ends so, in a machine that is told with this memory, and
-- in which these stand.
pub record EndsSo (code : CodeParts) (system : State) (bound : ℕ) (old : Drawn) (e : Ending) (memory : List ℕ) (xs : List AtEnd) : Type 0 where
  pub machine : Machine
  pub drawn : ℕ
  pub end : outcome.Ending
  pub same : EndsAs end e
  pub ends : EndsAfter code system bound old.source old.drawn end machine drawn
  pub last : Name
  pub ran_last : RanLast code system bound old.source old.drawn ends.0 end last
  pub seen : Machine
  pub is_seen : IsSeen code.words end machine seen last
  pub memory_is : seen.memory ≡ memory
  pub are : AreAtEnd seen (has_broken end last) xs

-- where an object outside failed nothing is told
abbrev pub EndsOr : CodeParts → State → (bound : ℕ) → (old : Drawn) → Ending → (memory : List ℕ) → List AtEnd → Type 0
EndsOr code system bound old ending.Fault memory xs = ⊤
EndsOr code system bound old e memory xs = EndsSo code system bound old e memory xs
