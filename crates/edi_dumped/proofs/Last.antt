-- The last stint of a run of code that has ended is that of the process whose instruction was the last one.
use Rattle.std.proofs.Common.{◌≡◌, ℕ, zero, suc, Bool, List, [], ◌∷◌, ◌++◌, Option, Some, None, refl, ◌∙◌}
use Rattle.edi_calls.specs.Choice.{Choices}
use Rattle.edi_calls.specs.Names.{Name, find}
use Rattle.edi_calls.specs.Outcome.{Ending}
use Rattle.edi_calls.specs.Ready.{stays, joins, Taking, nobody, taking, take_next}
use Rattle.edi_calls.specs.State.{State}
use Rattle.edi_target.specs.Attempts.{attempt_fails}
use Rattle.edi_target.specs.Check.{CodeParts}
use Rattle.edi_target.specs.Fetch.{fetch}
use Rattle.edi_target.specs.Mach.{Machine, Stepped, went, ended, step, entered}
use Rattle.edi_kernel.specs.Enders.{ender, ender_on, ender_after, ender_from_start}
use Rattle.edi_timeline.specs.Stints.{over, Stint}
use Rattle.edi_timed.specs.Ran.{Open, opened, end_in, start_in, closed, with_closed, timed_on, timed_after, timed, stints_of_code}

some_is : {X : Type 0} {x y : X} → Some x ≡ Some y → x ≡ y
some_is e = cc

-- the last of these stints is one of this process
pub record LastBy (p : Name) (stints : List Stint) : Type 0 where
  pub earlier : List Stint
  pub last : Stint
  pub last_is : stints ≡ earlier ++ last ∷ []
  pub process : last.process ≡ p

module _ (words : List ℕ) (choices : Choices) (bound : ℕ) where
  abbrev Ender : ℕ → Machine → Name → List Name → ℕ → Option Name
  Ender = ender (fetch words) choices

  abbrev Stints : ℕ → Open → List Stint → Machine → Name → List Name → ℕ → List Stint
  Stints = timed words choices bound

  -- where the stint that is going on is one of the process that is taken
  abbrev Ends : ℕ → Type 0
  Ends n =
      (b : Open) (xs : List Stint) (m : Machine) (p : Name) (others : List Name) (drawn : ℕ) (q : Name) → b.process ≡ p →
      Ender n m p others drawn ≡ Some q → LastBy q (Stints n b xs m p others drawn)

  on_ends : (n : ℕ) → Ends n → (x : Taking) (failed : Bool) (b : Open) (xs : List Stint) (m : Machine) (p q : Name) →
      ender_on x (Ender n m) ≡ Some q → LastBy q (timed_on words choices bound x failed b xs m p (λ c ys. Stints n c ys m))
  on_ends n h nobody failed b xs m p q e = absurd (cc)
  on_ends n h (taking r rest drawn) failed b xs m p q e =
      h (opened m r) (with_closed words choices bound b xs (end_in words failed (start_in xs p) b m (find m.activities p)) m) m r rest drawn q refl e

  next_ends : (n : ℕ) → Ends n → (failed : Bool) (b : Open) (xs : List Stint) (p : Name) (others : List Name) (drawn : ℕ) (x : Stepped) (q : Name) →
      b.process ≡ p → ender_after choices (Ender n) p others drawn x ≡ Some q →
      LastBy q (timed_after words choices bound (Stints n) failed b xs p others drawn x)
  next_ends n h failed b xs p others drawn (ended ending m) q own e = record {
    earlier = xs;
    last = closed bound b xs (over ending) m.turns m.system.shown;
    last_is = refl;
    process = own ∙ some_is e;
  }
  next_ends n h failed b xs p others drawn (went m stays) q own e = h b xs m p others drawn q own e
  next_ends n h failed b xs p others drawn (went m (joins ps)) q own e =
      on_ends n h (take_next choices drawn (others ++ ps)) failed b xs m p q e

  all_end : (n : ℕ) → Ends n
  all_end zero b xs m p others drawn q own e = absurd (cc)
  all_end (suc n) b xs m p others drawn q own e =
      next_ends n (all_end n) (attempt_fails (fetch words) m p (find m.activities p)) b xs p others drawn (step (fetch words) m p others) q own e

pub last_by : (parts : CodeParts) (system : State) (bound : ℕ) (choices : Choices) (n : ℕ) (p : Name) →
    ender_from_start (fetch parts.words) parts.entry parts.calls system bound choices 0 n ≡ Some p →
    LastBy p (stints_of_code parts system bound choices 0 n)
last_by parts system bound choices n p e =
    next_ends parts.words choices bound n (all_end parts.words choices bound n) _ _ [] [] [] 0
    (entered (fetch parts.words parts.entry) parts.entry parts.calls bound system) p refl e
