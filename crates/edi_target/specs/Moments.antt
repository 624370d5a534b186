-- Definition. The states of the system in the midst of a run: behind each of its system calls, the last one first. Between two calls no
-- instruction changes the system, so these and the first one are all states through which the run goes.
use Rattle.std.specs.Prelude.{◌≡◌, ℕ, zero, suc, Bool, List, [], ◌∷◌, ◌++◌, length, Option, Some, None, Contains}
use Rattle.edi_calls.specs.Calls.{CallResult, answered, no_file, file_limit, call}
use Rattle.edi_calls.specs.Choice.{Choices}
use Rattle.edi_calls.specs.Names.{Name, find}
use Rattle.edi_calls.specs.Outcome.{Ending}
use Rattle.edi_calls.specs.Ready.{stays, joins, Taking, nobody, taking, take_next}
use Rattle.edi_calls.specs.State.{State, moments_of}
use Rattle.edi_target.specs.Op.{Instruction}
use Rattle.edi_target.specs.Effect.{Effect, goes, released, asks, due, fails, bad}
use Rattle.edi_target.specs.Mach.{Running, Activity, Machine, Stepped, went, ended, running_of, is_first, effect_at, step, finished, after_step, run, entered}

-- the state that a call leaves, where it is answered
abbrev pub news_of_call : CallResult → List State
news_of_call (answered words system) = system ∷ []
news_of_call no_file = []
news_of_call file_limit = []

-- that which an instruction with this effect leaves, where it calls the system
abbrev pub news_of_effect : Effect → State → List State
news_of_effect (goes l) system = []
news_of_effect (released l) system = []
news_of_effect (asks number arguments address line l) system = news_of_call (call number arguments system)
news_of_effect (due kind l) system = []
news_of_effect (fails c line) system = []
news_of_effect bad system = []

module _ (fetch : ℕ → Option (Instruction × ℕ)) where
  -- of one instruction of an activity
  abbrev pub news_of : (live : ℕ) → (is_first : Bool) → Running → List State
  news_of live is_first r = news_of_effect (effect_at fetch (fetch r.local.pc) live is_first r.local) r.system

  abbrev pub news_from : Machine → Name → Option Activity → List State
  news_from m p None = []
  news_from m p (Some a) = news_of (length m.activities) (is_first p) (running_of m a)

  -- of one instruction of the taken process p
  abbrev pub news_at : Machine → Name → List State
  news_at m p = news_from m p (find m.activities p)

-- ---- along a run, on top of this past

abbrev pub history_on : Taking → (Name → List Name → ℕ → List State) → List State → List State
history_on nobody more past = past
history_on (taking p others drawn) more past = more p others drawn

abbrev pub history_after : Choices → (Machine → Name → List Name → ℕ → List State → List State) → Name → List Name → ℕ → List State → Stepped → List State
history_after choices more p others drawn past (ended ending m) = past
history_after choices more p others drawn past (went m stays) = more m p others drawn past
history_after choices more p others drawn past (went m (joins ps)) =
    history_on (take_next choices drawn (others ++ ps)) (λ q rest d. more m q rest d past) past

-- after at most n instructions from here
abbrev pub history : (ℕ → Option (Instruction × ℕ)) → Choices → ℕ → Machine → Name → List Name → ℕ → (past : List State) → List State
history fetch choices zero m p others drawn past = past
history fetch choices (suc n) m p others drawn past =
    history_after choices (history fetch choices n) p others drawn (news_at fetch m p ++ past) (step fetch m p others)

-- from the start, where so many choices had been drawn before it
abbrev pub history_from_start : (ℕ → Option (Instruction × ℕ)) → (entry : ℕ) → List ℕ → State → ℕ → Choices → (before n : ℕ) → List State
history_from_start fetch entry calls system bound choices before n =
    history_after choices (history fetch choices n) [] [] before [] (entered (fetch entry) entry calls bound system)

-- the run ends so after some number of instructions, with this past
abbrev pub EndsThrough : (ℕ → Option (Instruction × ℕ)) → (entry : ℕ) → List ℕ → State → ℕ → Choices → (before : ℕ) → Ending → Machine → ℕ
    → (past : List State) → Type 0
EndsThrough fetch entry calls system bound choices before ending m drawn past =
    (n : ℕ) × (after_step choices (run fetch choices n) [] [] before (entered (fetch entry) entry calls bound system) ≡ finished ending m drawn)
    × (history_from_start fetch entry calls system bound choices before n ≡ past)

-- THE RUN COMES THROUGH this state of the system: the first one, or one behind a system call
abbrev pub ComesThrough : (ℕ → Option (Instruction × ℕ)) → (entry : ℕ) → List ℕ → State → ℕ → Choices → (before : ℕ) → (moment : State) → Type 0
ComesThrough fetch entry calls system bound choices before moment =
    (n : ℕ) × Contains (moments_of system (history_from_start fetch entry calls system bound choices before n)) moment
