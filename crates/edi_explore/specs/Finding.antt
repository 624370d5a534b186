-- Words of contracts. A search that has found nothing, and one that finds endings.
use Rattle.std.specs.Prelude.{◌≡◌, ◌≤◌, ℕ, List, [], length, slice_get, Some, None}
use Rattle.edi_unit.specs.Tree.{ProgramUnit}
use Rattle.edi_follows.specs.Theorem.{CanBeCoded}
use Rattle.edi_target.specs.Check.{CodeParts}
use Rattle.edi_explored.specs.machine.Kernels.{IsUnitCode}
use Rattle.edi_explore.specs.declared.ends.Found.{Found}
use Rattle.edi_explore.specs.declared.ends.Limits.{Limits}
use Rattle.edi_explore.specs.declared.finding.Search.{Search}
use Rattle.edi_explore.specs.Offline.{offline}
use Rattle.edi_explore.specs.Systems.{system_of}
use Rattle.edi_explore.specs.Found.{AllTellWaits, AreRecorded, IsTold}
use Rattle.edi_explore.specs.Shown.{AreDistinct, HasEnding, asks_of}
use Rattle.edi_explore.specs.States.{AreNone, AreStates, Follows}

-- it has no states and no endings, and its system is that of the input
pub record IsBegun (input : List ℕ) (search : Search) : Type 0 where
  pub none : AreNone search.states
  pub states : AreStates search.states
  pub input_is : search.calls.input.items ≡ input
  pub system : system_of search.calls ≡ offline input
  pub working : search.calls.failed ≡ None
  pub found : search.found.items ≡ []
  pub moves : search.moves ≡ 0

-- it is told, and was not found before
pub record IsFresh (limits : Limits) (old : List Found) (one : Found) : Type 0 where
  pub told : IsTold one.ending
  pub lacks : HasEnding (asks_of limits) old one.ending one.shown.items → ⊥

-- what was found stays, and what was found besides is so, and is no ending that was found already; there are no more than may be
pub record Finds (code : CodeParts) (input : List ℕ) (limits : Limits) (old new : List Found) : Type 0 where
  pub recorded : (unit : ProgramUnit) → CanBeCoded unit → IsUnitCode unit code → AreRecorded unit input old → AreRecorded unit input new
  pub waits : AllTellWaits code input old → AllTellWaits code input new
  pub distinct : AreDistinct (asks_of limits) old → AreDistinct (asks_of limits) new
  pub fresh : (i : ℕ) (one : Found) → length old ≤ i → slice_get new i ≡ Some one → IsFresh limits old one
  pub few : (most : ℕ) → limits.shown ≡ Some most → length old ≤ most → length new ≤ most
  pub more : Follows old new

-- and that was found after as many moves as are noted
pub record FindsAt (code : CodeParts) (input : List ℕ) (limits : Limits) (old new : Search) : Type 0 where
  pub finds : Finds code input limits old.found.items new.found.items
  pub after : (i : ℕ) (one : Found) → length old.found.items ≤ i → slice_get new.found.items i ≡ Some one → one.moves ≡ old.moves
  pub moves : new.moves ≡ old.moves
