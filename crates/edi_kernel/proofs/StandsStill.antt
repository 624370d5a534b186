-- A run of any code stands still only by its marks.
use Rattle.std.proofs.Common.{◌≡◌, ℕ, zero, suc, ◌+◌, ◌%◌, true, false, List, [], ◌∷◌}
use Rattle.std.proofs.Common.{◌++◌, length, Option, Some, None, refl, sym, subst, ap, ◌∙◌}
use Rattle.edi_calls.specs.Choice.{Choices, choice}
use Rattle.edi_calls.specs.Names.{Name, find}
use Rattle.edi_calls.specs.Outcome as outcome
use Rattle.edi_calls.specs.Outcome.{Ending}
use Rattle.edi_calls.specs.Ready.{has, stays, joins, Taking, nobody, taking, take_next}
use Rattle.edi_calls.specs.State.{State}
use Rattle.edi_calls.proofs.Names.{some_is}
use Rattle.edi_target.specs.Op as op
use Rattle.edi_target.specs.Op.{Instruction}
use Rattle.edi_target.specs.Reading.{AreWords}
use Rattle.edi_target.specs.Fetch.{fetch}
use Rattle.edi_target.specs.Mach.{ready}
use Rattle.edi_target.specs.Mach.{waiting, Activity, Machine, Stepped, went, ended}
use Rattle.edi_target.specs.Mach.{step, finished, go_on, after_step, run, entered}
use Rattle.edi_target.specs.Mach.{machine_at}
use Rattle.edi_target.specs.segments.Nested.{MayGoOn, machine_after}
use Rattle.edi_target.proofs.segments.Families.{Sound}
use Rattle.edi_target.proofs.segments.Steps.{Left, step_leaves}
use Rattle.edi_target.proofs.segments.Queues.{Queues, step_queues}
use Rattle.edi_target.proofs.segments.Reaching.{Starts, starts, allowed_at}
use Rattle.edi_target.proofs.segments.Running.{AllFree, TakesFree, alone_free, goes_on, has-here, joined, taken_free}
use Rattle.edi_kernel.specs.StandsStill.{StandsStill, StandstillIsMarked}
use Rattle.edi_kernel.proofs.NameLists.{at_index}
use Rattle.edi_kernel.proofs.Remembered.{Many, Full, someone}
use Rattle.edi_kernel.proofs.Remembering.{Still, FullAfter, ready_free, step_full}

-- ---- runs

same_end : {x : Ending} {m t : Machine} {c d : ℕ} → finished x m c ≡ finished outcome.standstill t d → Still x m → StandsStill t
same_end {x} {m} {t} e h =
    let ending : x ≡ outcome.standstill = cc in
    let machine : m ≡ t = cc in
    subst (λ y. StandsStill y) machine (subst (λ z. Still z m) ending h)

abbrev TakesFull : Machine → Taking → Type 0
TakesFull m nobody = ⊥
TakesFull m (taking p others drawn) = Full m (p ∷ others)

takes_full : (m : Machine) (choices : Choices) (drawn : ℕ) (queue : List Name) → Full m queue → (x : Name) × (has queue x ≡ true)
    → TakesFull m (take_next choices drawn queue)
takes_full m choices drawn [] f some = let no : false ≡ true = some.1 in absurd (cc)
takes_full m choices drawn (p ∷ []) f some = f
takes_full m choices drawn (p ∷ q ∷ ps) f some = record {
  all = λ x g. at_index (p ∷ q ∷ ps) (choice choices (drawn + 1) % length (p ∷ q ∷ ps)) x (f.all x g);
  many = f.many;
  first = f.first;
}

module _ (words : List ℕ) (are : AreWords words) (choices : Choices) where
  abbrev RunStands : ℕ → Type 0
  RunStands n = (m : Machine) (p : Name) (others : List Name) (drawn : ℕ) → Sound m.activities → AllFree m (p ∷ others) → Full m (p ∷ others)
      → (t : Machine) (d : ℕ) → run (fetch words) choices n m p others drawn ≡ finished outcome.standstill t d → StandsStill t

  go_on_stands : (n : ℕ) → RunStands n → (m : Machine) → Sound m.activities → (next : Taking) → TakesFree m next → TakesFull m next → (drawn : ℕ)
      (t : Machine) (d : ℕ) → go_on next (run (fetch words) choices n m) m drawn ≡ finished outcome.standstill t d → StandsStill t
  go_on_stands n ih m s nobody a f drawn t d e = absurd f
  go_on_stands n ih m s (taking p others drawn') a f drawn t d e = ih m p others drawn' s a f t d e

  after_step_stands : (n : ℕ) → RunStands n → (m : Machine) (p : Name) (others : List Name) (drawn : ℕ) → AllFree m (p ∷ others) → (x : Stepped)
      → Left m.activities p (machine_after x).activities → Queues m p x → FullAfter p others x → (t : Machine) (d : ℕ)
      → after_step choices (run (fetch words) choices n) p others drawn x ≡ finished outcome.standstill t d → StandsStill t
  after_step_stands n ih m p others drawn a (ended last u) l q h t d e = same_end e h
  after_step_stands n ih m p others drawn a (went u stays) l q h t d e = ih u p others drawn l.sound (goes_on m p others a u l.others q) h t d e
  after_step_stands n ih m p others drawn a (went u (joins ps)) l q h t d e =
      go_on_stands n ih u l.sound (take_next choices drawn (others ++ ps)) (taken_free u choices drawn (others ++ ps) (joined m p others a u l.others ps q))
      (takes_full u choices drawn (others ++ ps) h (someone u (others ++ ps) h)) drawn t d e

  runs_stand : (n : ℕ) → RunStands n
  runs_stand zero m p others drawn s a f t d e = absurd (cc)
  runs_stand (suc n) m p others drawn s a f t d e =
      let g : MayGoOn m p = a.free p (has-here p others) in
      after_step_stands n (runs_stand n) m p others drawn a (step (fetch words) m p others)
      (step_leaves m p g.activity g.lives g.free s (fetch words) (allowed_at words are g.activity.first g.activity.last) others)
      (step_queues m p g.activity g.lives g.free s (fetch words) others) (step_full m p others g.activity g.lives g.free s f words are) t d e

-- ---- from the start

abbrev StartFull : Stepped → Type 0
StartFull (went m next) = Full m ([] ∷ [])
StartFull (ended ending m) = Still ending m

alone_full : (memory : List ℕ) (turns : ℕ) (system : State) (x : Activity) → x.standing ≡ ready → Full (machine_at memory (([], x) ∷ []) turns system) ([] ∷ [])
alone_full memory turns system x is = record { all = in_queue; many = still; first = (x, refl) }
  where
    in_queue : (q : Name) → MayGoOn (machine_at memory (([], x) ∷ []) turns system) q → has ([] ∷ []) q ≡ true
    in_queue [] g = refl
    in_queue (y ∷ q) g = let no : None ≡ Some g.activity = g.lives in absurd (cc)

    still : (q : Name) (b : Activity) (n : ℕ) → find (([], x) ∷ []) q ≡ Some b → b.standing ≡ waiting n → Many (([], x) ∷ []) q n
    still [] b n e w = absurd (ready_free n (sym is ∙ ap (λ y. y.standing) (some_is e) ∙ w))
    still (y ∷ q) b n e w = absurd (cc)

start_full : (found : Option (Instruction × ℕ)) (entry : ℕ) (calls : List ℕ) (bound : ℕ) (system : State) → StartFull (entered found entry calls bound system)
start_full (Some (op.entry need r p v f, body)) entry calls zero system = tt
start_full (Some (op.entry need r p v f, body)) entry calls (suc n) system = alone_full _ n system _ refl
start_full None entry calls bound system = tt
start_full (Some x) entry calls bound system = tt

from_start : (words : List ℕ) → AreWords words → (choices : Choices) (n : ℕ) (x : Stepped) → Starts x → StartFull x → (t : Machine) (d : ℕ)
    → after_step choices (run (fetch words) choices n) [] [] 0 x ≡ finished outcome.standstill t d → StandsStill t
from_start words are choices n (ended last u) s h t d e = same_end e h
from_start words are choices n (went u stays) s h t d e = runs_stand words are choices n u [] [] 0 s.0 (alone_free words are choices u s.1) h t d e
from_start words are choices n (went u (joins ps)) s h t d e = absurd s

pub standstill_is_marked : StandstillIsMarked
standstill_is_marked words entry calls system bound choices m drawn are ends =
    from_start words are choices ends.0 (entered (fetch words entry) entry calls bound system) (starts words are entry calls system bound)
    (start_full (fetch words entry) entry calls bound system) m drawn ends.1
