-- Definition. THE STINTS of a run of code: as `stints_of` has them of an execution, with the lines that stand in the code.
use Rattle.std.specs.Prelude.{ℕ, zero, suc, ◌-◌, ◌==◌, Bool, true, false, ◌&&◌, if◌then◌else◌, List, [], ◌∷◌, ◌++◌, length, drop, Option, Some, None}
use Rattle.edi_calls.specs.Choice.{Choices}
use Rattle.edi_calls.specs.Names.{Name, same, find}
use Rattle.edi_calls.specs.Outcome as outcome
use Rattle.edi_calls.specs.Ready.{stays, joins, Taking, nobody, taking, take_next}
use Rattle.edi_calls.specs.State.{State}
use Rattle.edi_target.specs.Fetch.{fetch}
use Rattle.edi_target.specs.Check.{CodeParts}
use Rattle.edi_target.specs.Mach.{Standing, ready, at_when, waiting, Activity, Machine, Stepped, went, ended}
use Rattle.edi_target.specs.Mach.{step, entered}
use Rattle.edi_target.specs.Attempts.{attempt_fails}
use Rattle.edi_timeline.specs.Stints.{Start, End, arrives, waits, tries, forks, ends, over, Stint}
use Rattle.edi_timeline.specs.Adding.{is_at, start_after}
use Rattle.edi_waits.specs.Places.{place}

-- ---- how a stint ends

abbrev pub is_marked : List Name → Bool
is_marked [] = false
is_marked (p ∷ ps) = true

-- the frame and the address at which a process stands, where it stands at a `when`
abbrev pub spot_as : Activity → Standing → Option (ℕ × ℕ)
spot_as a at_when = Some (a.base, a.pc)
spot_as a standing = None

abbrev pub spot_of : Option Activity → Option (ℕ × ℕ)
spot_of None = None
spot_of (Some a) = spot_as a a.standing

abbrev pub is_spot : Option (ℕ × ℕ) → (base pc : ℕ) → Bool
is_spot None base pc = false
is_spot (Some s) base pc = s.0 == base && s.1 == pc

-- a stint that has begun: whose it is, with how many turns left, behind how many bytes that were shown, and at which `when` it stood
pub record Open : Type 0 where
  pub process : Name
  pub turns : ℕ
  pub shown : ℕ
  pub stood : Option (ℕ × ℕ)

abbrev pub opened : Machine → Name → Open
opened m p = record { process = p; turns = m.turns; shown = length m.system.shown; stood = spot_of (find m.activities p) }

module _ (words : List ℕ) where
  -- How the instruction that ends a stint leaves its process, in this machine: at a `when`, waiting for its branches, or ended. An attempt that has
  -- failed leaves it waiting where the stint began at that very `when`; one that marks it has called no function. A code file may lead it elsewhere.
  abbrev pub left_as : (failed : Bool) → Start → Open → Machine → Activity → Standing → End
  left_as failed from b m a at_when =
      if failed && (is_at from && is_spot b.stood a.base a.pc) then (if is_marked m.marks then waits else tries)
      else arrives (place words m.memory a.first a.base a.pc)
  left_as failed from b m a (waiting n) = forks n
  left_as failed from b m a ready = ends

  abbrev pub end_in : (failed : Bool) → Start → Open → Machine → Option Activity → End
  end_in failed from b m None = ends
  end_in failed from b m (Some a) = left_as failed from b m a a.standing

-- ---- one stint

-- the last stint of a process
abbrev pub or_else : Option Stint → Option Stint → Option Stint
or_else None y = y
or_else (Some x) y = Some x

abbrev pub newest_of : List Stint → Name → Option Stint
newest_of [] p = None
newest_of (x ∷ xs) p = or_else (newest_of xs p) (if same x.process p then Some x else None)

-- a process is taken where its last stint has left it
abbrev pub start_in : List Stint → Name → Start
start_in xs p = start_after (newest_of xs p)

-- after these stints it has ended so, with so many turns left of the bound, and this shown
abbrev pub closed : (bound : ℕ) → Open → List Stint → End → (turns : ℕ) → (shown : List ℕ) → Stint
closed bound b xs end turns shown = record {
  process = b.process;
  first = suc (bound - b.turns);
  last = bound - turns;
  from = start_in xs b.process;
  end = end;
  shown = drop b.shown shown;
}

-- ---- along a run

module _ (words : List ℕ) (choices : Choices) (bound : ℕ) where
  abbrev pub with_closed : Open → List Stint → End → Machine → List Stint
  with_closed b xs end m = xs ++ closed bound b xs end m.turns m.system.shown ∷ []

  -- p has ended its stint, and the next is taken; where nobody is ready the run is at a standstill
  abbrev pub timed_on : Taking → (failed : Bool) → Open → List Stint → Machine → Name → (Open → List Stint → Name → List Name → ℕ → List Stint) → List Stint
  timed_on nobody failed b xs m p more = with_closed b xs (over outcome.standstill) m
  timed_on (taking q others drawn) failed b xs m p more =
      more (opened m q) (with_closed b xs (end_in words failed (start_in xs p) b m (find m.activities p)) m) q others drawn

  -- behind an instruction of p, which is the end of an attempt that has failed or not
  abbrev pub timed_after : (Open → List Stint → Machine → Name → List Name → ℕ → List Stint) → (failed : Bool) → Open → List Stint → Name
      → List Name → (drawn : ℕ) → Stepped → List Stint
  timed_after more failed b xs p others drawn (ended ending m) = with_closed b xs (over ending) m
  timed_after more failed b xs p others drawn (went m stays) = more b xs m p others drawn
  timed_after more failed b xs p others drawn (went m (joins ps)) =
      timed_on (take_next choices drawn (others ++ ps)) failed b xs m p (λ c ys. more c ys m)

  -- these stints, and those that end in at most n instructions from here, where p is taken in a stint that has begun so
  abbrev pub timed : ℕ → Open → List Stint → Machine → Name → List Name → (drawn : ℕ) → List Stint
  timed zero b xs m p others drawn = xs
  timed (suc n) b xs m p others drawn =
      timed_after (timed n) (attempt_fails (fetch words) m p (find m.activities p)) b xs p others drawn (step (fetch words) m p others)

-- THE STINTS of at most n instructions of this code from its start, where so many choices had been drawn before it
abbrev pub stints_of_code : CodeParts → State → (bound : ℕ) → Choices → (before n : ℕ) → List Stint
stints_of_code code system bound choices before n =
    timed_after code.words choices bound (timed code.words choices bound n) false
    (record { process = []; turns = bound; shown = length system.shown; stood = None }) [] [] [] before
    (entered (fetch code.words code.entry) code.entry code.calls bound system)
