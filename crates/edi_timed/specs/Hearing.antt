-- Words of contracts. What was shown since the first of some calls, by what was kept of it.
use Rattle.std.specs.Prelude.{◌≡◌, ◌≤◌, ℕ, ◌==◌, Bool, true, false, if◌then◌else◌, List, [], ◌∷◌, ◌++◌, take, slice_index, Option, None}
use Rattle.edi_told.specs.Told.{WhereTold}
use Rattle.edi_calls.specs.declared.ends.CallEnd.{CallEnd}
use Rattle.edi_calls.specs.declared.ends.CallEnd.TheVariants as end
use Rattle.edi_calls.specs.declared.ends.Outside.{Outside}
use Rattle.edi_calls.specs.State.{State, character}
use Rattle.edi_timeline.specs.declared.entry.Said.{Said}
use Rattle.edi_timeline.specs.Adding.{said_in}
use Rattle.edi_timed.specs.declared.heard.Heard.{Heard}

abbrev pub is_answered : CallEnd → Bool
is_answered end.Ok = true
is_answered end.NoFile = false
is_answered end.FileLimit = false
is_answered end.OutsideFault = false

-- what the call of this number shows, where it is answered
abbrev pub shown_words : (number : ℕ) → List ℕ → List ℕ
shown_words number words = if number == 2 then character (slice_index words 0) ∷ [] else []

-- what it has shown, where it has ended so
abbrev pub shown_by : (number : ℕ) → CallEnd → List ℕ → List ℕ
shown_by number end.Ok words = shown_words number words
shown_by number end.NoFile words = []
shown_by number end.FileLimit words = []
shown_by number end.OutsideFault words = []

-- what was shown from one state to the other is what was kept: of all that was shown the first seven characters
abbrev pub HasShown : (start now : Said) → State → State → Type 0
HasShown start now s t = (more : List ℕ) × (t.shown ≡ s.shown ++ more) × (said_in now ≡ take 7 (said_in start ++ more))

-- Calls lead the other object on from wherever they led. Where none has failed, what was kept is what was shown.
pub record Hears {C : Type 0} (state : C → Option State) (failed : C → Option Outside → Type 0) (leads : C → C → Type 0) (start now : Heard C) : Type 0 where
  pub led : (first : C) → leads first start.calls.now → leads first now.calls.now
  pub few : start.said.many ≤ 7 → now.said.many ≤ 7
  pub heard : start.said.many ≤ 7 → failed now.calls.now None → WhereTold (state start.calls.now) (state now.calls.now) (HasShown start.said now.said)

-- calls lead an object on from wherever they led
abbrev pub LeadsOn : {C : Type 0} → (leads : C → C → Type 0) → (start now : C) → Type 0
LeadsOn {C = C} leads start now = (first : C) → leads first start → leads first now
