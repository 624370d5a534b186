-- Words of contracts. Runs and machines that differ in nothing but what was printed and the turns that are left; and in what was shown, where
-- that is not told.
use Rattle.std.specs.Prelude.{◌≡◌, ⊤, ℕ, Bool, true, false, List}
use Rattle.edi_calls.specs.State.{State}
use Rattle.edi_calls.specs.Calls.{CallResult, answered, no_file, file_limit}
use Rattle.edi_calls.specs.Outcome as outcome
use Rattle.edi_target.specs.Mach.{Machine, Running, Answer, on, behind, turned, over}

-- the state, with other things shown and printed
abbrev pub shows : List ℕ → List ℕ → State → State
shows shown printed s = record s { shown = shown; printed = printed }

-- the same was shown, where it is told
abbrev pub SameShown : (told : Bool) → List ℕ → List ℕ → Type 0
SameShown true one other = other ≡ one
SameShown false one other = ⊤

-- the programs that call them cannot tell these states apart
pub record Alike (told : Bool) (s t : State) : Type 0 where
  pub input : t.input ≡ s.input
  pub slots : t.slots ≡ s.slots
  pub blocks : t.blocks ≡ s.blocks
  pub found : t.found ≡ s.found
  pub buffer : t.buffer ≡ s.buffer
  pub shown : SameShown told s.shown t.shown

abbrev pub CallAlike : Bool → CallResult → CallResult → Type 0
CallAlike told (answered words s) (answered other t) = (other ≡ words) × Alike told s t
CallAlike told no_file no_file = ⊤
CallAlike told file_limit file_limit = ⊤
CallAlike told _ _ = ⊥

pub record RunAlike (told : Bool) (r q : Running) : Type 0 where
  pub local : q.local ≡ r.local
  pub system : Alike told r.system q.system

-- the same answer; or the turns of the one or of the other are used up
abbrev pub AnswerAlike : Bool → Answer → Answer → Type 0
AnswerAlike told (on r) (on q) = RunAlike told r q
AnswerAlike told (behind r) (behind q) = RunAlike told r q
AnswerAlike told (turned kind r) (turned other q) = (other ≡ kind) × RunAlike told r q
AnswerAlike told (turned kind r) (over ending q) = ending ≡ outcome.turns
AnswerAlike told (over ending r) (turned other q) = ending ≡ outcome.turns
AnswerAlike told (over ending r) (over other q) = (other ≡ ending) × SameShown told r.system.shown q.system.shown
AnswerAlike told _ _ = ⊥

-- machines that may differ in their marks, too
pub record Other (told : Bool) (m q : Machine) : Type 0 where
  pub memory : q.memory ≡ m.memory
  pub activities : q.activities ≡ m.activities
  pub system : Alike told m.system q.system
