-- Words of contracts. THE EXECUTIONS THAT THE REPORT PERMITS: any process that may step is the next.
use Rattle.std.specs.Prelude.{ℕ, Bool, true, false, if◌then◌else◌, List, [], ◌∷◌}
use Rattle.std.specs.Prelude.{Option, Some, None}
use Rattle.edi_calls.specs.State.{Traced}
use Rattle.edi_calls.specs.Names.{Name, find, names}
use Rattle.edi_calls.specs.Outcome.{Ending}
use Rattle.edi_unit.specs.Tree.{ProgramUnit}
use Rattle.edi_meaning.specs.Step.{Process, Processes, Standing, Stepped, at_when, ended, ready, step, waiting, went}

abbrev pub is_running : Standing → Bool
is_running ready = true
is_running (at_when cs position) = true
is_running (waiting n) = false

abbrev pub is_running_process : Option Process → Bool
is_running_process None = false
is_running_process (Some q) = is_running q.standing

-- whether p is ready or at its `when`
abbrev pub may_step : Processes → Name → Bool
may_step s p = is_running_process (find s.live p)

-- where a list of steps leads: to a state that goes on, to the end of the program, or nowhere, since one of the
-- processes could not step
pub data Led : Type 0 where
  at : Processes → Led
  over : Ending → Traced → (turns : ℕ) → Led
  nowhere : Led

abbrev pub onward : Stepped → List Name → (Processes → Led) → Led
onward (went s next quiet) names go = go s
onward (ended ending system turns) [] go = over ending system turns
onward (ended ending system turns) (p ∷ ps) go = nowhere

-- PERMITTED: the steps of these processes, one after another, each ready or at its `when` as it steps. Any such process
-- may go next at any time.
abbrev pub permitted : ProgramUnit → List Name → Processes → Led
permitted unit [] s = at s
permitted unit (p ∷ ps) s = if may_step s p then onward (step unit s p) ps (permitted unit ps) else nowhere
