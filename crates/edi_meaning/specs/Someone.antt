-- Words of contracts. Some process can always go on: an execution stands still only by attempts.
use Rattle.std.specs.Prelude.{◌≡◌, ℕ, ◌<◌, true, List, [], ◌∷◌, ◌++◌, length}
use Rattle.edi_calls.specs.Choice.{Choices}
use Rattle.edi_calls.specs.Names.{Name}
use Rattle.edi_calls.specs.Outcome as outcome
use Rattle.edi_calls.specs.Ready.{joins}
use Rattle.edi_calls.specs.State.{State, Traced}
use Rattle.edi_unit.specs.Fits.{Fits}
use Rattle.edi_unit.specs.Need.{block_at}
use Rattle.edi_unit.specs.Tree.{Act, skip, assign, call, halt, if_act, while_act, when_act, cobegin, Acts, no_act, act_then, Clause, clause, Clauses}
use Rattle.edi_unit.specs.Tree.{no_clause, clause_then, ProgramUnit}
use Rattle.edi_meaning.specs.Step.{Processes, went, step, start}
use Rattle.edi_meaning.specs.Permitted.{may_step, at, permitted}
use Rattle.edi_meaning.specs.Select.{Ends}

-- each `cobegin` has a branch, but those inside a critical phase, which are never executed
abbrev mutual
  pub ActHasBranches : Act → Type 0
  ActHasBranches skip = Unit {0}
  ActHasBranches (assign v e) = Unit {0}
  ActHasBranches (call c es line) = Unit {0}
  ActHasBranches (halt line) = Unit {0}
  ActHasBranches (if_act cs) = ClausesHaveBranches cs
  ActHasBranches (while_act cs) = ClausesHaveBranches cs
  ActHasBranches (when_act cs line) = Unit {0}
  ActHasBranches (cobegin bs line) = 0 < length bs

  pub ActsHaveBranches : Acts → Type 0
  ActsHaveBranches no_act = Unit {0}
  ActsHaveBranches (act_then a s) = ActHasBranches a × ActsHaveBranches s

  pub ClauseHasBranches : Clause → Type 0
  ClauseHasBranches (clause e s) = ActsHaveBranches s

  pub ClausesHaveBranches : Clauses → Type 0
  ClausesHaveBranches no_clause = Unit {0}
  ClausesHaveBranches (clause_then c cs) = ClauseHasBranches c × ClausesHaveBranches cs

abbrev pub ForksHaveBranches : ProgramUnit → Type 0
ForksHaveBranches unit = (n : ℕ) → ActsHaveBranches (block_at unit.blocks n).body

-- so it is in each unit that fits
abbrev pub FittingForksHaveBranches : Type 0
FittingForksHaveBranches = (unit : ProgramUnit) → Fits unit → ForksHaveBranches unit

-- then some process may step in every state that permitted steps reach from the start: it is ready, or at its `when`
abbrev pub SomeoneMayStep : Type 0
SomeoneMayStep =
    (unit : ProgramUnit) (system : State) (bound : ℕ) (order : List Name) (s : Processes) → ForksHaveBranches unit →
    permitted unit order (start unit system bound) ≡ at s → (p : Name) × (may_step s p ≡ true)

-- the last of these steps is an attempt that failed and marks its process
pub record LastIsMarked (unit : ProgramUnit) (first : Processes) (order : List Name) : Type 0 where
  pub before : List Name
  pub name : Name
  pub is : order ≡ before ++ name ∷ []
  pub state : Processes
  pub leads : permitted unit before first ≡ at state
  pub after : Processes
  pub marks : step unit state name ≡ went after (joins (name ∷ [])) true

-- and so a standstill comes by the marks, never because nobody is ready
abbrev pub StandstillIsMarked : Type 0
StandstillIsMarked =
    (unit : ProgramUnit) (system : State) (bound : ℕ) (choices : Choices) (end : Traced) (turns drawn : ℕ) (order : List Name) →
    ForksHaveBranches unit →
    Ends unit system bound choices outcome.standstill end turns drawn order → LastIsMarked unit (start unit system bound) order
