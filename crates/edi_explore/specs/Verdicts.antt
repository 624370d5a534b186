-- Words of contracts. What a search answers.
use Rattle.std.specs.Prelude.{◌≡◌, ◌⊎◌, ◌+◌, ◌<◌, ◌≤◌, ℕ, List, length, None, ⊤}
use Rattle.edi_calls.specs.Choice.{listed}
use Rattle.edi_calls.specs.Outcome.{Outcome}
use Rattle.edi_unit.specs.Tree.{ProgramUnit}
use Rattle.edi_meaning.specs.Select.{Select}
use Rattle.edi_disjoint.specs.steps.Inner.{InnerStepsKeep}
use Rattle.edi_target.specs.Check.{CodeParts}
use Rattle.edi_follows.specs.Theorem.{CanBeCoded}
use Rattle.edi_explored.specs.Covered.{AllTold, AllToldBelow}
use Rattle.edi_explored.specs.Moves.{moves_selected}
use Rattle.edi_explored.specs.machine.Kernels.{IsUnitCode}
use Rattle.edi_orders.specs.Orders.{AreAllBySteps, AreCalm}
use Rattle.edi_explore.specs.declared.ends.Found.{Found}
use Rattle.edi_explore.specs.declared.ends.Limits.{Limits}
use Rattle.edi_explore.specs.declared.ends.Verdict.{Verdict}
use Rattle.edi_explore.specs.declared.ends.Verdict.TheVariants as verdict
use Rattle.edi_explore.specs.declared.expand.Expanded.{Expanded}
use Rattle.edi_explore.specs.declared.expand.Expanded.TheVariants as expanded
use Rattle.edi_explore.specs.declared.finding.Search.{Search}
use Rattle.edi_explore.specs.declared.step.GivenUp.{GivenUp}
use Rattle.edi_explore.specs.declared.step.GivenUp.TheVariants as given_up
use Rattle.edi_explore.specs.Expand.{HasBegun, IsWhole}
use Rattle.edi_explore.specs.Choices.{AreChoices, most_choices, turn_limit}
use Rattle.edi_explore.specs.Found.{endings_of}
use Rattle.edi_explore.specs.Offline.{offline}
use Rattle.edi_explore.specs.Shown.{HasMany, asks_of, told_by}

-- the verdict where all executions of fewer moves were followed, and these
abbrev pub verdict_of : Expanded → (moves : ℕ) → Verdict
verdict_of expanded.Whole moves = verdict.All
verdict_of expanded.Cut moves = verdict.Cut moves
verdict_of expanded.Unrecorded moves = verdict.Unrecorded moves

-- the verdict where all executions of fewer moves were followed before the search was given up
abbrev pub verdict_of_given_up : GivenUp → (moves : ℕ) → Verdict
verdict_of_given_up given_up.Full moves = verdict.Full moves
verdict_of_given_up given_up.Many moves = verdict.Many moves
verdict_of_given_up given_up.NoMemory moves = verdict.NoMemory moves

-- the one verdict, or the other where that one says that nothing is lacking
abbrev pub or_else : Verdict → Verdict → Verdict
or_else verdict.All other = other
or_else one other = one

-- the verdict speaks of the executions of fewer moves than that
abbrev pub IsUpTo : Verdict → ℕ → Type 0
IsUpTo verdict.All n = ⊥
IsUpTo (verdict.Full moves) n = n ≡ moves
IsUpTo (verdict.Many moves) n = n ≡ moves
IsUpTo (verdict.Cut moves) n = n ≡ moves
IsUpTo (verdict.Unrecorded moves) n = n ≡ moves
IsUpTo (verdict.NoMemory moves) n = n ≡ moves

-- ---- a cut

-- this bound on its turns cuts the execution that these choices select, after so many moves and with so many choices drawn
pub record IsCutAt (bound : ℕ) (unit : ProgramUnit) (input choices : List ℕ) (moves drawn : ℕ) : Type 0 where
  pub outcome : Outcome
  pub selects : Select unit (offline input) bound (listed choices) outcome
  pub cut : outcome.ending ≡ turn_limit
  pub moved : moves_selected unit (offline input) bound (listed choices) outcome selects ≡ moves
  pub draws : outcome.draws ≡ drawn

-- A process goes on for more than so many turns: in the execution that these choices select no other one is taken in these turns, nor is it taken
-- again, since there is neither a move nor a choice in them. A record may have the choices.
pub record IsCutBy (turns : ℕ) (unit : ProgramUnit) (input choices : List ℕ) : Type 0 where
  pub before : ℕ
  pub moves : ℕ
  pub drawn : ℕ
  pub begins : IsCutAt before unit input choices moves drawn
  pub goes_on : IsCutAt (before + turns) unit input choices moves drawn
  pub few : length choices ≤ most_choices
  pub small : AreChoices choices

-- where the verdict is that a stint was cut, these choices bring that about
abbrev pub HasCause : (turns : ℕ) → ProgramUnit → (input : List ℕ) → Verdict → (choices : List ℕ) → Type 0
HasCause turns unit input (verdict.Cut moves) choices = IsCutBy turns unit input choices
HasCause turns unit input _ choices = ⊤

-- the verdict again; of a cut that is not confirmed another one that says the same of endings
abbrev pub IsConfirmed : (first now : Verdict) → Type 0
IsConfirmed (verdict.Cut moves) now = (now ≡ verdict.Cut moves) ⊎ ((now ≡ verdict.Unrecorded moves) ⊎ (now ≡ verdict.NoMemory moves))
IsConfirmed first now = now ≡ first

module _ (code : CodeParts) (input : List ℕ) (limits : Limits) where
  -- these are all endings of each program with this code, or all below so many moves
  abbrev pub AreAllOf : List Found → Type 0
  AreAllOf found = (unit : ProgramUnit) → CanBeCoded unit → IsUnitCode unit code → AllTold unit (offline input) (told_by (asks_of limits) found)

  -- where output is not looked at, and these are calm, they are all endings of every order of steps, too, of each program with this code whose
  -- inner steps keep to themselves
  abbrev pub AreAllByStepsOf : List Found → Type 0
  AreAllByStepsOf found =
      limits.shown ≡ None → (unit : ProgramUnit) → CanBeCoded unit → IsUnitCode unit code → AreCalm (endings_of found) → InnerStepsKeep unit (offline input) →
      AreAllBySteps unit (offline input) (endings_of found)

  abbrev pub AreAllTo : ℕ → List Found → Type 0
  AreAllTo moves found =
      (unit : ProgramUnit) → CanBeCoded unit → IsUnitCode unit code → AllToldBelow moves unit (offline input) (told_by (asks_of limits) found)

  abbrev pub IsAnswer : (count : ℕ) → List Found → Verdict → Type 0
  IsAnswer count found verdict.All = AreAllOf found × AreAllByStepsOf found
  IsAnswer count found (verdict.Full moves) = AreAllTo moves found × (limits.states ≤ count)
  IsAnswer count found (verdict.Many moves) = AreAllTo moves found × HasMany limits found
  IsAnswer count found (verdict.Cut moves) = AreAllTo moves found
  IsAnswer count found (verdict.Unrecorded moves) = AreAllTo moves found
  IsAnswer count found (verdict.NoMemory moves) = AreAllTo moves found

  -- where the verdict is that these are all, all states were expanded, and each stint leads along a link
  abbrev pub IsWholeIf : Verdict → Search → Type 0
  IsWholeIf verdict.All s = IsWhole code input limits s
  IsWholeIf _ s = ⊤

  -- the first stint was followed, with turns left
  pub record HasFirst (s : Search) : Type 0 where
    pub some : 0 < limits.turns
    pub first : HasBegun code input limits s
