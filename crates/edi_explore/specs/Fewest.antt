-- Words of contracts. Endings that no execution of fewer moves has.
use Rattle.std.specs.Prelude.{◌≡◌, ◌≤◌, ℕ, Bool, List, length, Contains, Some, ⊤}
use Rattle.edi_calls.specs.Choice.{Choices}
use Rattle.edi_calls.specs.Names.{Name}
use Rattle.edi_calls.specs.Outcome.{Ending}
use Rattle.edi_calls.specs.State.{Traced}
use Rattle.edi_unit.specs.Tree.{ProgramUnit}
use Rattle.edi_meaning.specs.Select.{Ends}
use Rattle.edi_target.specs.Check.{CodeParts}
use Rattle.edi_follows.specs.Theorem.{CanBeCoded}
use Rattle.edi_explored.specs.Moves.{moves_of}
use Rattle.edi_explored.specs.machine.Alike.{SameShown}
use Rattle.edi_explored.specs.machine.Kernels.{IsUnitCode, ending_of}
use Rattle.edi_explore.specs.declared.ends.Found.{Found}
use Rattle.edi_explore.specs.declared.ends.Limits.{Limits}
use Rattle.edi_explore.specs.declared.ends.Verdict.{Verdict}
use Rattle.edi_explore.specs.declared.ends.Verdict.TheVariants as verdict
use Rattle.edi_explore.specs.Offline.{offline}
use Rattle.edi_explore.specs.Shown.{asks_of}

-- NO EXECUTION OF FEWER MOVES ENDS SO, whatever its choices and its bound; and with the same output, where that is looked at
abbrev pub IsFewest : (asks : Bool) → ProgramUnit → (input : List ℕ) → Found → Type 0
IsFewest asks unit input one =
    (bound : ℕ) (choices : Choices) (ending : Ending) (end : Traced) (turns drawn : ℕ) (order : List Name) →
    Ends unit (offline input) bound choices ending end turns drawn order → ending_of one.ending ≡ Some ending → SameShown asks one.shown.items end.now.shown →
    one.moves ≤ moves_of unit (offline input) bound choices (length order)

-- where the verdict says something of all executions of fewer moves than these
abbrev pub IsWithin : Verdict → (moves : ℕ) → Type 0
IsWithin verdict.All n = ⊤
IsWithin (verdict.Full moves) n = n ≤ moves
IsWithin (verdict.Many moves) n = n ≤ moves
IsWithin (verdict.Cut moves) n = n ≤ moves
IsWithin (verdict.Unrecorded moves) n = n ≤ moves
IsWithin (verdict.NoMemory moves) n = n ≤ moves

-- each that was found has at most so many moves
abbrev pub AreUpTo : (moves : ℕ) → List Found → Type 0
AreUpTo moves found = (one : Found) → Contains found one → one.moves ≤ moves

-- the verdict says something of all executions of fewer moves than each that was found has, where a limit has ended the search. After a stint
-- that was cut, and after an ending without a record, it has gone on, and may have found others of more moves. Memory may run out later, in the
-- run that is to confirm a cut
abbrev pub AreWithin : Verdict → List Found → Type 0
AreWithin verdict.All found = ⊤
AreWithin (verdict.Full moves) found = AreUpTo moves found
AreWithin (verdict.Many moves) found = AreUpTo moves found
AreWithin (verdict.Cut moves) found = ⊤
AreWithin (verdict.Unrecorded moves) found = ⊤
AreWithin (verdict.NoMemory moves) found = ⊤

-- of each that was found, where the verdict says something of all executions of fewer moves
abbrev pub AreFewest : CodeParts → (input : List ℕ) → Limits → Verdict → List Found → Type 0
AreFewest code input limits v found =
    (unit : ProgramUnit) → CanBeCoded unit → IsUnitCode unit code → (one : Found) → Contains found one → IsWithin v one.moves →
    IsFewest (asks_of limits) unit input one
