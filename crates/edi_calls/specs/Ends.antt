-- Words of contracts. How a call may end that was to have this result, and, on any object, how the call of a number may end.
use Rattle.std.specs.Prelude.{◌≡◌, ℕ, ◌<◌, ◌≤◌, ◌⊎◌, Bool, true, false, ◌||◌, ◌==◌, if◌then◌else◌, List, Option, Some, None, ⊤}
use Rattle.std.specs.List.{All}
use Rattle.edi_told.specs.Faults.{CountRose}
use Rattle.edi_calls.specs.declared.ends.CallEnd.{CallEnd}
use Rattle.edi_calls.specs.declared.ends.CallEnd.TheVariants as end
use Rattle.edi_calls.specs.declared.ends.Outside.{Outside}
use Rattle.edi_calls.specs.State.{State}
use Rattle.edi_calls.specs.Asked.{uses}
use Rattle.edi_calls.specs.Calls.{CallResult, answered, no_file, file_limit}

-- after a call that an object outside failed, the input is as before it: its bytes are taken only by an answer. The bytes shown, the
-- bytes printed and the slots are each as before it or as it was to leave them; the found file and the buffer are open
pub record IsTorn (before next after : State) : Type 0 where
  pub input : after.input ≡ before.input
  pub shown : (after.shown ≡ before.shown) ⊎ (after.shown ≡ next.shown)
  pub printed : (after.printed ≡ before.printed) ⊎ (after.printed ≡ next.printed)
  pub slots : (after.slots ≡ before.slots) ⊎ (after.slots ≡ next.slots)
  pub blocks : after.blocks ≡ before.blocks

-- the call ends as its result says, or an object outside fails a call that was to be answered
abbrev pub Meets : CallResult → CallEnd → List ℕ → State → State → Type 0
Meets (answered words next) end.Ok answer before after = (answer ≡ words) × (after ≡ next)
Meets (answered words next) end.OutsideFault answer before after = IsTorn before next after
Meets no_file end.NoFile answer before after = after ≡ before
Meets file_limit end.FileLimit answer before after = after ≡ before
Meets _ _ answer before after = ⊥

-- the calls that use the file that is read or the one that is written, and are refused where there is none
abbrev pub uses_file : (number : ℕ) → Bool
uses_file number = number == 5 || number == 6 || number == 8 || number == 9

-- how many values the answer word of a call may have: a character is below 128, a truth value is 0 or 1
abbrev pub answer_values : (number : ℕ) → ℕ
answer_values number = if number == 1 || number == 6 then 128 else 2

-- How the call of a number may end, and the answer words that it may have, on any object, also on one that does not tell its state:
-- only a call that uses a file is refused for want of one, and only `write` because the file has its greatest length.
abbrev pub MayEnd : (number : ℕ) → CallEnd → (answer : List ℕ) → Type 0
MayEnd number end.Ok answer = All (λ word. word < answer_values number) answer
MayEnd number end.NoFile answer = uses_file number ≡ true
MayEnd number end.FileLimit answer = number ≡ 8
MayEnd number end.OutsideFault answer = ⊤

-- the call is refused: there is no file, or the file has its greatest length
abbrev pub is_refused : CallEnd → Bool
is_refused end.NoFile = true
is_refused end.FileLimit = true
is_refused end.Ok = false
is_refused end.OutsideFault = false

-- What has failed after a call before which nothing had: one object, at an outside fault, and its count of faults
-- rose in this call; nothing at any other end.
abbrev pub Blames : CallEnd → (failed : Option Outside → Type 0) → (before now : Outside → ℕ) → Type 0
Blames end.OutsideFault failed before now = (outside : Outside) × failed (Some outside) × CountRose (before outside) (now outside)
Blames _ failed before now = failed None

-- what has failed is an object that the call of this number uses
abbrev pub IsUsed : (number : ℕ) → (failed : Option Outside → Type 0) → Type 0
IsUsed number failed = (outside : Outside) → failed (Some outside) → uses number outside ≡ true

-- what calls leave of the object that answers them: no count of faults falls, it holds the same references, and calls have led
-- from wherever they led before
abbrev pub CallsLast : {C R : Type 0} → (faults : C → Outside → ℕ) → (references : C → R) → (leads : C → C → Type 0) → (old new : C) → Type 0
CallsLast {C = C} faults references leads old new =
    ((outside : Outside) → faults old outside ≤ faults new outside)
    × (references new ≡ references old)
    × ((start : C) → leads start old → leads start new)
