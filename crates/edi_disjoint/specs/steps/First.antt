-- Words of contracts. A step that keeps to itself goes first.
use Rattle.std.specs.Prelude.{◌≡◌, ℕ, ◌+◌, false, List, [], ◌∷◌, ◌++◌}
use Rattle.edi_calls.specs.Names.{Name}
use Rattle.edi_calls.specs.Ready.{has}
use Rattle.edi_calls.specs.State.{State}
use Rattle.edi_unit.specs.Tree.{ProgramUnit}
use Rattle.edi_meaning.specs.Store.{instances}
use Rattle.edi_meaning.specs.Step.{Processes, start}
use Rattle.edi_meaning.specs.Permitted.{at, permitted}
use Rattle.edi_disjoint.specs.steps.Own.{KeepsToItself}
use Rattle.edi_disjoint.specs.steps.Turns.{with_more}

-- the same processes with the same instances, the same system, and so many turns more
pub record IsSameWith (more : ℕ) (a b : Processes) : Type 0 where
  pub live : b.live ≡ a.live
  pub store : (r : Name) → instances b.world.store r ≡ instances a.world.store r
  pub system : b.world.system ≡ a.world.system
  pub turns : b.world.turns ≡ a.world.turns + more

-- with some turns more, p and then the others lead to the same as the others and then p
pub record GoesFirst (unit : ProgramUnit) (s : Processes) (p : Name) (names : List Name) (a : Processes) : Type 0 where
  pub more : ℕ
  pub state : Processes
  pub leads : permitted unit (p ∷ names) (with_more more s) ≡ at state
  pub same : IsSameWith more a state

-- SO IT IS OF EACH STEP THAT KEEPS TO ITSELF, before all permitted orders of steps of others, in every state that permitted steps reach
abbrev pub OwnStepsGoFirst : Type 0
OwnStepsGoFirst =
    (unit : ProgramUnit) (system : State) (bound : ℕ) (order : List Name) (s : Processes) (p : Name) (names : List Name) (a : Processes) →
    permitted unit order (start unit system bound) ≡ at s → KeepsToItself unit s p → has names p ≡ false →
    permitted unit (names ++ p ∷ []) s ≡ at a → GoesFirst unit s p names a
