-- Definition. WHO STANDS WHERE at the end of a run: each process that lives, how it stands, and its frames; and which machine is told.
use Rattle.std.specs.Prelude.{◌≡◌, ◌⊎◌, ℕ, zero, suc, ◌+◌, ◌-◌, Bool, true, false, ◌&&◌, ◌||◌, nat_eq, nat_lt, if◌then◌else◌, List, [], ◌∷◌, length, Contains}
use Rattle.std.specs.Prelude.{slice_get, Option, Some, None}
use Rattle.edi_calls.specs.Names.{Name, find, same}
use Rattle.edi_calls.specs.Outcome as outcome
use Rattle.edi_target.specs.Effect.{Effect, due}
use Rattle.edi_target.specs.Fetch.{fetch}
use Rattle.edi_target.specs.Mach.{Activity, Machine, Standing, ready, at_when, waiting, activity_of, back, effect_at, is_first, running_of}
use Rattle.edi_target.specs.Memory.{word}
use Rattle.edi_target.specs.Op.{address_of_words}
use Rattle.edi_kernel.specs.declared.frames.Below.{Below}
use Rattle.edi_kernel.specs.Kept.{leads_down}
use Rattle.edi_waits.specs.declared.ends.Stands.{Stands}
use Rattle.edi_waits.specs.declared.ends.Stands.TheVariants as stands

-- ---- how a process stands

-- The one whose instruction ended the run ran last. One that is ready has not begun, or goes on after its branches, all of which have ended.
abbrev pub stands_by : (ran : Bool) → Standing → (forks : ℕ) → Stands
stands_by true standing forks = stands.Ran
stands_by false ready forks = if nat_eq forks 0 then stands.Fresh else stands.Joined
stands_by false at_when forks = stands.AtWhen
stands_by false (waiting n) forks = stands.Awaits n

-- whether this process ended the run, whose last instruction was one of `last`: at a standstill nobody has
abbrev pub has_broken : outcome.Ending → (last : Name) → Name → Bool
has_broken outcome.standstill last = λ p. false
has_broken end last = same last

-- ---- its frames

-- The frames of a process, the newest first, at most so many: where each begins, up to where it is in use, and where the code goes on in it.
abbrev pub frames_of : ℕ → List ℕ → (first base top back : ℕ) → List Below
frames_of zero memory first base top back = []
frames_of (suc n) memory first base top back =
    record { base = base; top = top; back = back } ∷ (if leads_down first base (word memory (base + 1)) (word memory (base + 4)) then frames_of n memory first
    (word memory (base + 1)) (word memory (base + 4)) (address_of_words (word memory (base + 2)) (word memory (base + 3))) else [])

-- ---- all processes

-- a process at the end of a run
pub record AtEnd : Type 0 where
  pub process : Name
  pub stands : Stands
  pub frames : List Below

-- a name before another: a parent before its branches, and branches of one fork by their numbers
abbrev pub is_before : Name → Name → Bool
is_before [] [] = false
is_before [] (y ∷ q) = true
is_before (x ∷ p) [] = false
is_before (x ∷ p) (y ∷ q) = nat_lt x y || (nat_eq x y && is_before p q)

-- of this machine, where such a process ended the run
module _ (m : Machine) (ran : Name → Bool) where
  -- Each frame begins below the one before, so they are no more than the words from the segment's first to the newest frame's base.
  abbrev pub end_of : Name → Activity → AtEnd
  end_of p a = record { process = p; stands = stands_by (ran p) a.standing a.forks; frames = frames_of (suc (a.base - a.first)) m.memory a.first a.base a.top a.pc }

  -- THESE ARE THERE: each stands so, and each process of the machine is one of them; each comes before the next one, and so none stands there twice
  pub record AreAtEnd (xs : List AtEnd) : Type 0 where
    pub each : (x : AtEnd) → Contains xs x → (a : Activity) × (find m.activities x.process ≡ Some a) × (x ≡ end_of x.process a)
    pub all : (p : Name) (a : Activity) → find m.activities p ≡ Some a → Contains xs (end_of p a)
    pub order : (i : ℕ) (x y : AtEnd) → slice_get xs i ≡ Some x → slice_get xs (suc i) ≡ Some y → is_before x.process y.process ≡ true

-- ---- the machine of an end

-- an instruction of p of which a turn is due has been executed
abbrev pub executed : Effect → Machine → Name → Activity → Machine
executed (due kind l) m p a = back m p (activity_of l a.forks ready) [] (record (running_of m a) { local = l })
executed effect m p a = m

abbrev pub executed_by : List ℕ → Machine → Name → Option Activity → Machine
executed_by words m p None = m
executed_by words m p (Some a) = executed (effect_at (fetch words) (fetch words a.pc) (length m.activities) (is_first p) (running_of m a).local) m p a

-- The machine that is told is that of the end. Where no turn was left for the last instruction, of p, this may have been executed all the same.
abbrev pub IsSeen : List ℕ → outcome.Ending → (m seen : Machine) → Name → Type 0
IsSeen words outcome.turns m seen p = (seen ≡ m) ⊎ (seen ≡ executed_by words m p (find m.activities p))
IsSeen words end m seen p = seen ≡ m
