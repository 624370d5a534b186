-- A process that goes on by itself has not arrived.
use Rattle.std.proofs.Common.{◌≡◌, ℕ, zero, suc, ◌-◌, Bool, true, false, if◌then◌else◌, List, [], ◌∷◌, ◌++◌, length, Option, Some, None, refl, sym, subst, ap, ◌∙◌}
use Rattle.std.specs.Prelude.{⊤}
use Rattle.edi_calls.specs.Names.{Name, find, with_at, without}
use Rattle.edi_calls.specs.Outcome as outcome
use Rattle.edi_calls.specs.Ready.{parent_of, all_marked, Next, stays, joins, freed}
use Rattle.edi_calls.proofs.Tables.{find-with_at-same}
use Rattle.edi_target.specs.Op.{Instruction}
use Rattle.edi_target.specs.Effect.{Turn, entering, leaving, looping, arriving, again, forking, exiting, finishing}
use Rattle.edi_target.specs.Mach.{Running, Answer, on, behind, turned, over, local_step, Standing, ready, at_when, waiting, awaits, Activity, Machine, Stepped, went}
use Rattle.edi_target.specs.Mach.{ended, running_of, activity_of, back, one_less, notified, attempted, at_turn, kernel, is_first, step_of, step}
use Rattle.edi_target.specs.Arrivals.{Arrived, arrived_in}

module _ (p : Name) (others : List Name) where
  -- p is not at its `when`
  abbrev pub NotArrived : Machine → Type 0
  NotArrived m = arrived_in m p (find m.activities p) ≡ []

  abbrev StaysReady : Stepped → Type 0
  StaysReady (went m stays) = NotArrived m
  StaysReady (went m (joins ps)) = ⊤
  StaysReady (ended ending m) = ⊤

  ready_again : (m : Machine) (a : Activity) (forks : ℕ) (marks : List Name) (r : Running) → NotArrived (back m p (activity_of r.local forks ready) marks r)
  ready_again m a forks marks r =
      ap (arrived_in (back m p (activity_of r.local forks ready) marks r) p) (find-with_at-same m.activities p (activity_of r.local forks ready))

  freed_ready : (n : ℕ) (m : Machine) (q : Name) → StaysReady (went m (freed n q))
  freed_ready zero m q = tt
  freed_ready (suc n) m q = tt

  less_ready : (m : Machine) (q : Name) (a : Activity) (s : Standing) → StaysReady (one_less m q a s)
  less_ready m q a (waiting n) = freed_ready (n - 1) (record m { activities = with_at m.activities q (record a { standing = awaits (n - 1) }) }) q
  less_ready m q a ready = tt
  less_ready m q a at_when = tt

  told_ready : (m : Machine) (q : Name) (a : Option Activity) → StaysReady (notified m q a)
  told_ready m q None = tt
  told_ready m q (Some a) = less_ready m q a a.standing

  tested_ready : (b : Bool) (m : Machine) → StaysReady (if b then ended outcome.standstill m else went m (joins (p ∷ [])))
  tested_ready true m = tt
  tested_ready false m = tt

  turned_ready : (m : Machine) (a : Activity) (kind : Turn) (r : Running) → StaysReady (at_turn m p others a kind r)
  turned_ready m a entering r = ready_again m a a.forks [] r
  turned_ready m a leaving r = ready_again m a a.forks [] r
  turned_ready m a looping r = ready_again m a a.forks [] r
  turned_ready m a arriving r = tt
  turned_ready m a (again false) r = tt
  turned_ready m a (again true) r =
      tested_ready (all_marked (p ∷ m.marks) (p ∷ others)) (back m p (activity_of r.local a.forks at_when) (p ∷ m.marks) r)
  turned_ready m a (forking branches) r = tt
  turned_ready m a exiting r = told_ready _ (parent_of p) (find (without m.activities p) (parent_of p))
  turned_ready m a finishing r = tt

  kernel_ready : (m : Machine) (a : Activity) (answer : Answer) → StaysReady (kernel m p others a answer)
  kernel_ready m a (on r) = ready_again m a a.forks m.marks r
  kernel_ready m a (behind r) = ready_again m a a.forks [] r
  kernel_ready m a (turned kind r) = turned_ready m a kind r
  kernel_ready m a (over ending r) = tt

  module _ (fetch : ℕ → Option (Instruction × ℕ)) where
    step_of_ready : (m : Machine) (a : Option Activity) → StaysReady (step_of fetch m p others a)
    step_of_ready m None = tt
    step_of_ready m (Some a) = kernel_ready m a (local_step fetch (length m.activities) (is_first p) (running_of m a))

    pub stays_ready : (m t : Machine) → step fetch m p others ≡ went t stays → NotArrived t
    stays_ready m t e = subst StaysReady e (step_of_ready m (find m.activities p))
