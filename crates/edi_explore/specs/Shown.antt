-- Words of contracts. Endings that are told apart by what was shown, where output is looked at.
use Rattle.std.specs.Prelude.{◌≡◌, ◌≤◌, ℕ, Bool, true, false, List, [], ◌∷◌, length, slice_get, Contains, is_some, Option, Some, None}
use Rattle.edi_calls.specs.Outcome as outcome
use Rattle.edi_kernel.specs.declared.ends.Ending.{Ending}
use Rattle.edi_explored.specs.Covered as covered
use Rattle.edi_explored.specs.machine.Alike.{SameShown}
use Rattle.edi_explored.specs.machine.Kernels.{ending_of}
use Rattle.edi_explore.specs.declared.ends.Found.{Found}
use Rattle.edi_explore.specs.declared.ends.Limits.{Limits}
use Rattle.edi_explore.specs.Found.{endings_of}

-- whether output is looked at
abbrev pub asks_of : Limits → Bool
asks_of limits = is_some limits.shown

-- what was found ends so, with this shown where output is looked at
pub record IsMet (asks : Bool) (one : Found) (e : Ending) (text : List ℕ) : Type 0 where
  pub ending : one.ending ≡ e
  pub shown : SameShown asks text one.shown.items

-- the ending is among those that were found
abbrev pub HasEnding : (asks : Bool) → List Found → Ending → (shown : List ℕ) → Type 0
HasEnding asks found e shown = (one : Found) × Contains found one × IsMet asks one e shown

-- no ending is found twice
abbrev pub AreDistinct : (asks : Bool) → List Found → Type 0
AreDistinct asks found =
    (i j : ℕ) (a b : Found) → slice_get found i ≡ Some a → slice_get found j ≡ Some b → IsMet asks b a.ending a.shown.items → i ≡ j

-- as many were found as may be
abbrev pub HasMany : Limits → List Found → Type 0
HasMany limits found = (most : ℕ) × (limits.shown ≡ Some most) × (most ≤ length found)

abbrev pub with_shown : Option outcome.Ending → (shown : List ℕ) → List (outcome.Ending × List ℕ) → List (outcome.Ending × List ℕ)
with_shown None shown es = es
with_shown (Some e) shown es = (e, shown) ∷ es

-- the endings that were found, each with all that was shown
abbrev pub shown_endings_of : List Found → List (outcome.Ending × List ℕ)
shown_endings_of [] = []
shown_endings_of (one ∷ found) = with_shown (ending_of one.ending) one.shown.items (shown_endings_of found)

-- what is told of them
abbrev pub told_by : (asks : Bool) → List Found → covered.Report
told_by false found = covered.endings (endings_of found)
told_by true found = covered.shown_endings (shown_endings_of found)
