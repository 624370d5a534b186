-- Words of contracts. The moments of a run and the past of its system are one: each moment shows the newest state, and the past has no others.
use Rattle.std.specs.Prelude.{◌≡◌, ◌⊎◌, ℕ, suc, true, List, ◌++◌, Some, Contains}
use Rattle.edi_calls.specs.declared.ends.Outside.{Outside}
use Rattle.edi_calls.specs.Asked.{uses, may_have_done, Asks, IsFollowed}
use Rattle.edi_calls.specs.Choice.{Choices}
use Rattle.edi_calls.specs.Laws.{IsSameOutside}
use Rattle.edi_calls.specs.State.{State, moments_of, newest}
use Rattle.edi_target.specs.Check.{CodeParts}
use Rattle.edi_target.specs.Fetch.{fetch}
use Rattle.edi_target.specs.Moments.{news_at, history_from_start, ComesThrough}
use Rattle.edi_trace.specs.Drawn.{Drawn}
use Rattle.edi_kernel.specs.Moments.{Moment, moment_of}
use Rattle.edi_kernel.specs.Runs.{FailsIn}

-- of this run
module _ (code : CodeParts) (system : State) (bound : ℕ) (choices : Choices) (before : ℕ) where
  -- the past of the system after at most n instructions, the last state first
  abbrev pub past_at : ℕ → List State
  past_at n = history_from_start (fetch code.words) code.entry code.calls system bound choices before n

  -- after n instructions it goes on, at this moment
  abbrev pub IsMomentAfter : ℕ → Moment → Type 0
  IsMomentAfter n x = moment_of code system bound choices before n ≡ Some x

  -- at each moment the system is the last state of the past
  abbrev pub MomentIsNewest : Type 0
  MomentIsNewest = (n : ℕ) (x : Moment) → IsMomentAfter n x → newest system (past_at n) ≡ x.machine.system

  -- a call that is answered at a moment adds the state that it leaves
  abbrev pub MomentAdds : Type 0
  MomentAdds = (n : ℕ) (x : Moment) → IsMomentAfter n x → past_at (suc n) ≡ news_at (fetch code.words) x.machine x.name ++ past_at n

  -- each state of the past is that of a moment
  abbrev pub PastIsOfMoments : Type 0
  PastIsOfMoments = (n : ℕ) (s : State) → Contains (moments_of system (past_at n)) s → (s ≡ system)
      ⊎ ((k : ℕ) × (x : Moment) × IsMomentAfter k x × (x.machine.system ≡ s))

-- so of every run of every code, however many choices were drawn before it
abbrev pub OfEveryRun : (CodeParts → State → ℕ → Choices → ℕ → Type 0) → Type 0
OfEveryRun Law = (code : CodeParts) (system : State) (bound : ℕ) (choices : Choices) (before : ℕ) → Law code system bound choices before

-- Where an object outside failed in a run, the system is, but for the found file and the buffer, a state through which the run
-- comes: the one before the call that failed, or the one that this call was to leave.
abbrev pub FaultIsMoment : Type 0
FaultIsMoment =
    (code : CodeParts) (system : State) (bound : ℕ) (old new : Drawn) (used : ℕ) (now : State) → FailsIn code system bound old used now new →
    (moment : State) × ComesThrough (fetch code.words) code.entry code.calls system bound old.source old.drawn moment × IsSameOutside moment now

-- Of the two states, which follow one another in this past, the call between them uses this object. But for the found file and the
-- buffer the system is now the one or the other; where the input has failed, it is the first.
pub record IsFailedCall (outside : Outside) (system : State) (past : List State) (now : State) : Type 0 where
  pub before : State
  pub next : State
  pub follows : IsFollowed system past before next
  pub asks : Asks outside before next
  pub at : IsSameOutside before now ⊎ ((may_have_done outside ≡ true) × IsSameOutside next now)

-- Where an object outside failed in a run, this is so of the call that failed and of each object that it uses, in the past that the run
-- has with that call answered.
abbrev pub FaultIsCall : Type 0
FaultIsCall =
    (code : CodeParts) (system : State) (bound : ℕ) (old new : Drawn) (used : ℕ) (now : State) (f : FailsIn code system bound old used now new)
    (outside : Outside) → uses f.fails.number outside ≡ true →
    (n : ℕ) × IsFailedCall outside system (past_at code system bound old.source old.drawn n) now
