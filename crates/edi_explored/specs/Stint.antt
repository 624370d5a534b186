-- Words of contracts. A stint: what one process does from when it is taken until the next one is taken.
use Rattle.std.specs.Prelude.{ℕ, zero, suc, Bool, List}
use Rattle.edi_calls.specs.Names.{Name}
use Rattle.edi_calls.specs.Outcome.{Ending}
use Rattle.edi_calls.specs.Ready.{Next, stays, joins}
use Rattle.edi_unit.specs.Tree.{ProgramUnit}
use Rattle.edi_meaning.specs.Step.{Processes, Stepped, went, ended, step}

-- the next is taken in this state, where these have joined the list; the test says whether the stint was an attempt that marks its
-- process. Or the stint has ended the program, with all that was shown by then. Or it needs more steps.
pub data Stinted : Type 0 where
  goes_on : Stinted
  behind : Processes → List Name → (quiet : Bool) → Stinted
  over : Ending → (shown : List ℕ) → Stinted

abbrev pub stint_next : (Processes → Stinted) → Processes → (quiet : Bool) → Next → Stinted
stint_next more s quiet stays = more s
stint_next more s quiet (joins ps) = behind s ps quiet

abbrev pub stint_after : (Processes → Stinted) → Stepped → Stinted
stint_after more (ended ending system turns) = over ending system.now.shown
stint_after more (went s next quiet) = stint_next more s quiet next

-- the stint of p from here, within so many steps
abbrev pub stint : ProgramUnit → ℕ → Processes → Name → Stinted
stint unit zero s p = goes_on
stint unit (suc n) s p = stint_after (λ t. stint unit n t p) (step unit s p)
