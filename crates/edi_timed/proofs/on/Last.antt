-- The last stint of a run of code that has ended tells how, and after how many turns.
use Rattle.std.proofs.Common.{◌≡◌, ℕ, zero, suc, ◌-◌, Bool, List, [], ◌++◌, refl, subst}
use Rattle.edi_calls.specs.Choice.{Choices}
use Rattle.edi_calls.specs.Names.{Name, find}
use Rattle.edi_calls.specs.Outcome as outcome
use Rattle.edi_calls.specs.Outcome.{Ending}
use Rattle.edi_calls.specs.Ready.{stays, joins, Taking, nobody, taking, take_next}
use Rattle.edi_target.specs.Attempts.{attempt_fails}
use Rattle.edi_target.specs.Fetch.{fetch}
use Rattle.edi_target.specs.Mach.{Machine, Stepped, went, ended, step, MachineRun, finished, go_on, after_step, run, entered}
use Rattle.edi_timeline.specs.Stints.{over, Stint}
use Rattle.edi_timed.specs.Ran.{Open, opened, end_in, start_in, closed, with_closed, timed_on, timed_after, timed}
use Rattle.edi_timed.specs.on.Laws.{EndWith, StintsOfCodeEnd}

same_ending : {e f : Ending} {m o : Machine} {c d : ℕ} → finished e m c ≡ finished f o d → e ≡ f
same_ending h = cc

same_machine : {e f : Ending} {m o : Machine} {c d : ℕ} → finished e m c ≡ finished f o d → m ≡ o
same_machine h = cc

module _ (words : List ℕ) (choices : Choices) (bound : ℕ) where
  abbrev Run : ℕ → Machine → Name → List Name → ℕ → MachineRun
  Run n m p others drawn = run (fetch words) choices n m p others drawn

  abbrev Stints : ℕ → Open → List Stint → Machine → Name → List Name → ℕ → List Stint
  Stints n b xs m p others drawn = timed words choices bound n b xs m p others drawn

  -- the stint that has ended with the run is the last one
  closes : (b : Open) (xs : List Stint) (e f : Ending) (m o : Machine) (c d : ℕ) → finished e m c ≡ finished f o d →
      EndWith f (bound - o.turns) (with_closed words choices bound b xs (over e) m)
  closes b xs e f m o c d is =
      subst (λ t. t) (λ i. EndWith (same_ending is i) (bound - (same_machine is i).turns) (with_closed words choices bound b xs (over e) m)) (record {
        first = xs;
        one = closed bound b xs (over e) m.turns m.system.shown;
        are = refl;
        end = refl;
        last_is = refl;
      })

  abbrev Closes : ℕ → Type 0
  Closes n =
      (b : Open) (xs : List Stint) (m : Machine) (p : Name) (others : List Name) (drawn : ℕ) (f : Ending) (o : Machine) (d : ℕ) →
      Run n m p others drawn ≡ finished f o d → EndWith f (bound - o.turns) (Stints n b xs m p others drawn)

  on_closes : (n : ℕ) → Closes n → (x : Taking) (failed : Bool) (b : Open) (xs : List Stint) (m : Machine) (p : Name) (drawn : ℕ)
      (f : Ending) (o : Machine) (d : ℕ) → go_on x (Run n m) m drawn ≡ finished f o d →
      EndWith f (bound - o.turns) (timed_on words choices bound x failed b xs m p (λ c ys. Stints n c ys m))
  on_closes n h nobody failed b xs m p drawn f o d e = closes b xs outcome.standstill f m o drawn d e
  on_closes n h (taking q rest t) failed b xs m p drawn f o d e =
      h (opened m q) (with_closed words choices bound b xs (end_in words failed (start_in xs p) b m (find m.activities p)) m) m q rest t f o d e

  next_closes : (n : ℕ) → Closes n → (failed : Bool) (b : Open) (xs : List Stint) (p : Name) (others : List Name) (drawn : ℕ) (x : Stepped)
      (f : Ending) (o : Machine) (d : ℕ) → after_step choices (Run n) p others drawn x ≡ finished f o d →
      EndWith f (bound - o.turns) (timed_after words choices bound (Stints n) failed b xs p others drawn x)
  next_closes n h failed b xs p others drawn (ended ending m) f o d e = closes b xs ending f m o drawn d e
  next_closes n h failed b xs p others drawn (went m stays) f o d e = h b xs m p others drawn f o d e
  next_closes n h failed b xs p others drawn (went m (joins ps)) f o d e =
      on_closes n h (take_next choices drawn (others ++ ps)) failed b xs m p drawn f o d e

  all_close : (n : ℕ) → Closes n
  all_close zero b xs m p others drawn f o d e = absurd (cc)
  all_close (suc n) b xs m p others drawn f o d e =
      next_closes n (all_close n) (attempt_fails (fetch words) m p (find m.activities p)) b xs p others drawn (step (fetch words) m p others) f o d e

pub stints_of_code_end : StintsOfCodeEnd
stints_of_code_end code system bound choices n ending m drawn e =
    next_closes code.words choices bound n (all_close code.words choices bound n) _ _ [] [] [] 0
    (entered (fetch code.words code.entry) code.entry code.calls bound system) ending m drawn e
