-- A run is refused only where a process that may go on stands, or at its entry.
use Rattle.std.proofs.Common.{◌≡◌, ◌⊎◌, inl, inr, ℕ, zero, suc, Bool, true, false, if◌then◌else◌, List, [], ◌∷◌, ◌++◌, length, Option, Some, None, refl, sym}
use Rattle.std.proofs.Common.{subst, ap}
use Rattle.std.specs.Prelude.{⊤}
use Rattle.edi_calls.specs.declared.kinds.Cause.{Cause}
use Rattle.edi_calls.specs.declared.kinds.Cause.TheVariants as cause
use Rattle.edi_calls.specs.Calls.{CallResult, answered, no_file, file_limit, call}
use Rattle.edi_calls.specs.Choice.{Choices}
use Rattle.edi_calls.specs.Names.{Name, find, without}
use Rattle.edi_calls.specs.Outcome as outcome
use Rattle.edi_calls.specs.Outcome.{Ending}
use Rattle.edi_calls.specs.Ready.{parent_of, all_marked, stays, joins, Taking, nobody, taking, take_next}
use Rattle.edi_calls.specs.State.{State}
use Rattle.edi_calls.proofs.Tables.{find-with_at-same}
use Rattle.edi_target.specs.Op as op
use Rattle.edi_target.specs.Op.{Instruction}
use Rattle.edi_target.specs.Reading.{AreWords}
use Rattle.edi_target.specs.Fetch.{fetch}
use Rattle.edi_target.specs.Effect.{Local, Turn, entering, leaving, looping, arriving, again, forking, exiting, finishing, Effect, goes, released, asks, due}
use Rattle.edi_target.specs.Effect.{fails, bad}
use Rattle.edi_target.specs.Mach.{Running, Answer, on, behind, turned, over, ending_of, called, turn_from, settled, effect_at, local_step, Standing, ready}
use Rattle.edi_target.specs.Mach.{at_when, waiting, Activity, Machine, Stepped, went, ended, running_of, back, one_less, notified, at_turn, kernel, is_first}
use Rattle.edi_target.specs.Mach.{step_of, step, finished, go_on, after_step, run, entered}
use Rattle.edi_target.specs.segments.Nested.{MayGoOn, machine_after}
use Rattle.edi_target.specs.segments.Refused.{StandsAt, RefusedWhereOneStands}
use Rattle.edi_target.proofs.segments.Families.{Sound}
use Rattle.edi_target.proofs.segments.Steps.{Left, step_leaves}
use Rattle.edi_target.proofs.segments.Queues.{Queues, step_queues}
use Rattle.edi_target.proofs.segments.Reaching.{Starts, starts, allowed_at}
use Rattle.edi_target.proofs.segments.Running.{AllFree, TakesFree, alone_free, goes_on, has-here, joined, taken_free}

-- ---- one step

-- an end by a refusal is one at this address
abbrev BadAt : ℕ → Ending → Type 0
BadAt at outcome.done = ⊤
BadAt at (outcome.halted line) = ⊤
BadAt at (outcome.failed c line) = ⊤
BadAt at outcome.turns = ⊤
BadAt at outcome.standstill = ⊤
BadAt at (outcome.bad address) = address ≡ at

abbrev AnswerAt : ℕ → Answer → Type 0
AnswerAt at (on r) = ⊤
AnswerAt at (behind r) = ⊤
AnswerAt at (turned kind r) = ⊤
AnswerAt at (over ending r) = BadAt at ending

-- where the run ends by a refusal, a process stands at its address
abbrev Stands : Machine → Ending → Type 0
Stands t outcome.done = ⊤
Stands t (outcome.halted line) = ⊤
Stands t (outcome.failed c line) = ⊤
Stands t outcome.turns = ⊤
Stands t outcome.standstill = ⊤
Stands t (outcome.bad address) = StandsAt t address

abbrev StepStands : Stepped → Type 0
StepStands (went t next) = ⊤
StepStands (ended ending t) = Stands t ending

call_at : (result : CallResult) (address : Option ℕ) (line : ℕ) (l : Local) (r : Running) (at : ℕ) → AnswerAt at (called result address line l r)
call_at (answered words system) address line l r at = tt
call_at no_file address line l r at = tt
call_at file_limit address line l r at = tt

turn_at : (n : ℕ) (kind : Turn) (l : Local) (r : Running) (at : ℕ) → AnswerAt at (turn_from n kind l r)
turn_at zero kind l r at = tt
turn_at (suc n) kind l r at = tt

failure_at : (c : Cause) (line at : ℕ) → BadAt at (ending_of c line)
failure_at cause.Range line at = tt
failure_at cause.VariableLimit line at = tt
failure_at cause.ProcessLimit line at = tt
failure_at cause.Held line at = tt
failure_at cause.NoFile line at = tt
failure_at cause.FileLimit line at = tt
failure_at cause.Halt line at = tt

settled_at : (e : Effect) (r : Running) → AnswerAt r.local.pc (settled e r)
settled_at (goes l) r = tt
settled_at (released l) r = tt
settled_at (asks number arguments address line l) r = call_at (call number arguments r.system) address line l r r.local.pc
settled_at (due kind l) r = turn_at r.turns kind l r r.local.pc
settled_at (fails c line) r = failure_at c line r.local.pc
settled_at bad r = refl

one_less_stands : (m : Machine) (q : Name) (a : Activity) (s : Standing) → StepStands (one_less m q a s)
one_less_stands m q a ready = tt
one_less_stands m q a at_when = tt
one_less_stands m q a (waiting n) = tt

told_stands : (m : Machine) (q : Name) (a : Option Activity) → StepStands (notified m q a)
told_stands m q None = tt
told_stands m q (Some a) = one_less_stands m q a a.standing

tested_stands : (b : Bool) (m : Machine) (p : Name) → StepStands (if b then ended outcome.standstill m else went m (joins (p ∷ [])))
tested_stands true m p = tt
tested_stands false m p = tt

turned_stands : (m : Machine) (p : Name) (others : List Name) (a : Activity) (kind : Turn) (r : Running) → StepStands (at_turn m p others a kind r)
turned_stands m p others a entering r = tt
turned_stands m p others a leaving r = tt
turned_stands m p others a looping r = tt
turned_stands m p others a arriving r = tt
turned_stands m p others a (again false) r = tt
turned_stands m p others a (again true) r = tested_stands (all_marked (p ∷ m.marks) (p ∷ others)) _ p
turned_stands m p others a (forking branches) r = tt
turned_stands m p others a exiting r = told_stands _ (parent_of p) (find (without m.activities p) (parent_of p))
turned_stands m p others a finishing r = tt

-- the taken process is as it was, and so stands where it was refused
module _ (m : Machine) (p : Name) (a : Activity) (free : (n : ℕ) → a.standing ≡ waiting n → ⊥) where
  over_stands : (ending : Ending) (r : Running) → BadAt a.pc ending → Stands (back m p a m.marks r) ending
  over_stands outcome.done r at = tt
  over_stands (outcome.halted line) r at = tt
  over_stands (outcome.failed c line) r at = tt
  over_stands outcome.turns r at = tt
  over_stands outcome.standstill r at = tt
  over_stands (outcome.bad address) r at = record {
    name = p;
    may = record { activity = a; lives = find-with_at-same m.activities p a; free = free };
    here = sym at;
  }

  kernel_stands : (others : List Name) (answer : Answer) → AnswerAt a.pc answer → StepStands (kernel m p others a answer)
  kernel_stands others (on r) at = tt
  kernel_stands others (behind r) at = tt
  kernel_stands others (turned kind r) at = turned_stands m p others a kind r
  kernel_stands others (over ending r) at = over_stands ending r at

step_stands : (code : ℕ → Option (Instruction × ℕ)) (m : Machine) (p : Name) (others : List Name) → MayGoOn m p → StepStands (step code m p others)
step_stands code m p others g =
    subst (λ x. StepStands (step_of code m p others x)) (sym g.lives)
    (kernel_stands m p g.activity g.free others (local_step code (length m.activities) (is_first p) (running_of m g.activity))
    (settled_at (effect_at code (code g.activity.pc) (length m.activities) (is_first p) (running_of m g.activity).local) (running_of m g.activity)))

-- ---- runs

same_end : {x y : Ending} {m t : Machine} {c d : ℕ} → finished x m c ≡ finished y t d → Stands m x → Stands t y
same_end {x} {y} {m} {t} e h =
    let ending : x ≡ y = cc in
    let machine : m ≡ t = cc in
    subst (λ z. Stands z y) machine (subst (λ z. Stands m z) ending h)

module _ (words : List ℕ) (are : AreWords words) (choices : Choices) where
  abbrev RunStands : ℕ → Type 0
  RunStands n = (m : Machine) (p : Name) (others : List Name) (drawn : ℕ) → Sound m.activities → AllFree m (p ∷ others) →
      (ending : Ending) (t : Machine) (d : ℕ) → run (fetch words) choices n m p others drawn ≡ finished ending t d → Stands t ending

  go_on_stands : (n : ℕ) → RunStands n → (m : Machine) → Sound m.activities → (next : Taking) → TakesFree m next → (drawn : ℕ) (ending : Ending)
      (t : Machine) (d : ℕ) → go_on next (run (fetch words) choices n m) m drawn ≡ finished ending t d → Stands t ending
  go_on_stands n ih m s nobody f drawn ending t d e = same_end e tt
  go_on_stands n ih m s (taking p others drawn') f drawn ending t d e = ih m p others drawn' s f ending t d e

  after_step_stands : (n : ℕ) → RunStands n → (m : Machine) (p : Name) (others : List Name) (drawn : ℕ) → AllFree m (p ∷ others) → (x : Stepped)
      → Left m.activities p (machine_after x).activities → Queues m p x → StepStands x →
      (ending : Ending) (t : Machine) (d : ℕ) → after_step choices (run (fetch words) choices n) p others drawn x ≡ finished ending t d → Stands t ending
  after_step_stands n ih m p others drawn a (ended last u) l q h ending t d e = same_end e h
  after_step_stands n ih m p others drawn a (went u stays) l q h ending t d e =
      ih u p others drawn l.sound (goes_on m p others a u l.others q) ending t d e
  after_step_stands n ih m p others drawn a (went u (joins ps)) l q h ending t d e =
      go_on_stands n ih u l.sound (take_next choices drawn (others ++ ps)) (taken_free u choices drawn (others ++ ps) (joined m p others a u l.others ps q))
      drawn ending t d e

  runs_stand : (n : ℕ) → RunStands n
  runs_stand zero m p others drawn s a ending t d e = absurd (cc)
  runs_stand (suc n) m p others drawn s a ending t d e =
      let g : MayGoOn m p = a.free p (has-here p others) in
      after_step_stands n (runs_stand n) m p others drawn a (step (fetch words) m p others)
      (step_leaves m p g.activity g.lives g.free s (fetch words) (allowed_at words are g.activity.first g.activity.last) others)
      (step_queues m p g.activity g.lives g.free s (fetch words) others) (step_stands (fetch words) m p others g) ending t d e

-- ---- from the start

abbrev StandsOr : (entry : ℕ) → Machine → Ending → Type 0
StandsOr entry t outcome.done = ⊤
StandsOr entry t (outcome.halted line) = ⊤
StandsOr entry t (outcome.failed c line) = ⊤
StandsOr entry t outcome.turns = ⊤
StandsOr entry t outcome.standstill = ⊤
StandsOr entry t (outcome.bad address) = StandsAt t address ⊎ ((t.activities ≡ []) × (address ≡ entry))

stands_too : (entry : ℕ) (t : Machine) (ending : Ending) → Stands t ending → StandsOr entry t ending
stands_too entry t outcome.done h = tt
stands_too entry t (outcome.halted line) h = tt
stands_too entry t (outcome.failed c line) h = tt
stands_too entry t outcome.turns h = tt
stands_too entry t outcome.standstill h = tt
stands_too entry t (outcome.bad address) h = inl h

abbrev StartStands : (entry : ℕ) → Stepped → Type 0
StartStands entry (went t next) = ⊤
StartStands entry (ended ending t) = StandsOr entry t ending

entered_stands : (found : Option (Instruction × ℕ)) (entry : ℕ) (calls : List ℕ) (bound : ℕ) (system : State)
    → StartStands entry (entered found entry calls bound system)
entered_stands (Some (op.entry need r p v f, body)) entry calls zero system = tt
entered_stands (Some (op.entry need r p v f, body)) entry calls (suc n) system = tt
entered_stands None entry calls bound system = inr (refl, refl)
entered_stands (Some x) entry calls bound system = inr (refl, refl)

same_start : (entry : ℕ) {x y : Ending} {m t : Machine} {c d : ℕ} → finished x m c ≡ finished y t d → StandsOr entry m x → StandsOr entry t y
same_start entry {x} {y} {m} {t} e h =
    let ending : x ≡ y = cc in
    let machine : m ≡ t = cc in
    subst (λ z. StandsOr entry z y) machine (subst (λ z. StandsOr entry m z) ending h)

from_start : (words : List ℕ) → AreWords words → (choices : Choices) (entry n : ℕ) (x : Stepped) → Starts x → StartStands entry x → (ending : Ending)
    (t : Machine) (d : ℕ) → after_step choices (run (fetch words) choices n) [] [] 0 x ≡ finished ending t d → StandsOr entry t ending
from_start words are choices entry n (ended last u) s h ending t d e = same_start entry e h
from_start words are choices entry n (went u stays) s h ending t d e =
    stands_too entry t ending (runs_stand words are choices n u [] [] 0 s.0 (alone_free words are choices u s.1) ending t d e)
from_start words are choices entry n (went u (joins ps)) s h ending t d e = absurd s

pub refused_where_one_stands : RefusedWhereOneStands
refused_where_one_stands words entry calls system bound choices address m drawn are ends =
    from_start words are choices entry ends.0 (entered (fetch words entry) entry calls bound system) (starts words are entry calls system bound)
    (entered_stands (fetch words entry) entry calls bound system) (outcome.bad address) m drawn ends.1
