-- All runs of a code that have ended have the same stints, and a shorter run has the first of them.
use Rattle.std.proofs.Common.{◌≡◌, ◌⊎◌, inl, inr, ℕ, zero, suc, ◌<◌, ◌≤◌, Bool, List, [], ◌∷◌, ◌++◌, refl, sym, ◌∙◌, arith, append-nil, append_assoc}
use Rattle.std.proofs.lemmas.Bool.{cases_lt}
use Rattle.edi_calls.specs.Choice.{Choices}
use Rattle.edi_calls.specs.Names.{Name, find}
use Rattle.edi_calls.specs.Outcome as outcome
use Rattle.edi_calls.specs.Outcome.{Ending}
use Rattle.edi_calls.specs.Ready.{stays, joins, Taking, nobody, taking, take_next}
use Rattle.edi_calls.specs.State.{State}
use Rattle.edi_target.specs.Attempts.{attempt_fails}
use Rattle.edi_target.specs.Check.{CodeParts}
use Rattle.edi_target.specs.Fetch.{fetch}
use Rattle.edi_target.specs.Mach.{Machine, Stepped, went, ended, step, MachineRun, unfinished, finished, go_on, after_step, run, entered}
use Rattle.edi_timeline.specs.Stints.{over, Stint}
use Rattle.edi_timed.specs.Ran.{Open, opened, end_in, start_in, closed, with_closed, timed_on, timed_after, timed, stints_of_code}

module _ (words : List ℕ) (choices : Choices) (bound : ℕ) where
  abbrev Run : ℕ → Machine → Name → List Name → ℕ → MachineRun
  Run n m p others drawn = run (fetch words) choices n m p others drawn

  abbrev Stints : ℕ → Open → List Stint → Machine → Name → List Name → ℕ → List Stint
  Stints n b xs m p others drawn = timed words choices bound n b xs m p others drawn

  abbrev pub EndsIn : MachineRun → Type 0
  EndsIn r = (ending : Ending) × (m : Machine) × (drawn : ℕ) × (r ≡ finished ending m drawn)

  abbrev Settles : ℕ → ℕ → Type 0
  Settles n k =
      (b : Open) (xs : List Stint) (m : Machine) (p : Name) (others : List Name) (drawn : ℕ) → EndsIn (Run n m p others drawn) →
      Stints k b xs m p others drawn ≡ Stints n b xs m p others drawn

  on_settled : (n k : ℕ) → Settles n k → (x : Taking) (failed : Bool) (b : Open) (xs : List Stint) (m : Machine) (p : Name) (drawn : ℕ) →
      EndsIn (go_on x (Run n m) m drawn) →
      timed_on words choices bound x failed b xs m p (λ c ys. Stints k c ys m) ≡ timed_on words choices bound x failed b xs m p (λ c ys. Stints n c ys m)
  on_settled n k h nobody failed b xs m p drawn e = refl
  on_settled n k h (taking q rest d) failed b xs m p drawn e =
      h (opened m q) (with_closed words choices bound b xs (end_in words failed (start_in xs p) b m (find m.activities p)) m) m q rest d e

  next_settled : (n k : ℕ) → Settles n k → (failed : Bool) (b : Open) (xs : List Stint) (p : Name) (others : List Name) (drawn : ℕ) (x : Stepped) →
      EndsIn (after_step choices (Run n) p others drawn x) →
      timed_after words choices bound (Stints k) failed b xs p others drawn x ≡ timed_after words choices bound (Stints n) failed b xs p others drawn x
  next_settled n k h failed b xs p others drawn (ended ending m) e = refl
  next_settled n k h failed b xs p others drawn (went m stays) e = h b xs m p others drawn e
  next_settled n k h failed b xs p others drawn (went m (joins ps)) e = on_settled n k h (take_next choices drawn (others ++ ps)) failed b xs m p drawn e

  settled : (n k : ℕ) → n ≤ k → Settles n k
  settled zero k le b xs m p others drawn e = let none : unfinished ≡ finished e.0 e.1 e.2 = e.3 in absurd (cc)
  settled (suc n) zero le b xs m p others drawn e = absurd (omega (arith, le))
  settled (suc n) (suc k) le b xs m p others drawn e =
      next_settled n k (settled n k (omega (arith, le))) (attempt_fails (fetch words) m p (find m.activities p)) b xs p others drawn
      (step (fetch words) m p others) e

  -- stints are only added
  abbrev Adds : ℕ → Type 0
  Adds k =
      (b : Open) (xs : List Stint) (m : Machine) (p : Name) (others : List Name) (drawn : ℕ) →
      (more : List Stint) × (Stints k b xs m p others drawn ≡ xs ++ more)

  adds : (k : ℕ) → Adds k
  adds zero b xs m p others drawn = ([], sym (append-nil xs))
  adds (suc k) b xs m p others drawn = next (adds k) (attempt_fails (fetch words) m p (find m.activities p)) (step (fetch words) m p others)
    where
      on : Adds k → (x : Taking) (failed : Bool) (m : Machine) →
          (more : List Stint) × (timed_on words choices bound x failed b xs m p (λ c ys. Stints k c ys m) ≡ xs ++ more)
      on h nobody failed m = (closed bound b xs (over outcome.standstill) m.turns m.system.shown ∷ [], refl)
      on h (taking q rest d) failed m =
          let x : Stint = closed bound b xs (end_in words failed (start_in xs p) b m (find m.activities p)) m.turns m.system.shown in
          let r : (more : List Stint) × (Stints k (opened m q) (xs ++ x ∷ []) m q rest d ≡ (xs ++ x ∷ []) ++ more) =
          h (opened m q) (xs ++ x ∷ []) m q rest d in
          (x ∷ r.0, r.1 ∙ append_assoc xs (x ∷ []) r.0)

      next : Adds k → (failed : Bool) (x : Stepped) →
          (more : List Stint) × (timed_after words choices bound (Stints k) failed b xs p others drawn x ≡ xs ++ more)
      next h failed (ended ending m) = (closed bound b xs (over ending) m.turns m.system.shown ∷ [], refl)
      next h failed (went m stays) = h b xs m p others drawn
      next h failed (went m (joins ps)) = on h (take_next choices drawn (others ++ ps)) failed m

  -- a shorter run has the first of them
  abbrev Begins : ℕ → ℕ → Type 0
  Begins n k =
      (b : Open) (xs : List Stint) (m : Machine) (p : Name) (others : List Name) (drawn : ℕ) →
      (more : List Stint) × (Stints k b xs m p others drawn ≡ Stints n b xs m p others drawn ++ more)

  on_begins : (n k : ℕ) → Begins n k → (x : Taking) (failed : Bool) (b : Open) (xs : List Stint) (m : Machine) (p : Name) →
      (more : List Stint) × (timed_on words choices bound x failed b xs m p (λ c ys. Stints k c ys m)
      ≡ timed_on words choices bound x failed b xs m p (λ c ys. Stints n c ys m) ++ more)
  on_begins n k h nobody failed b xs m p = ([], sym (append-nil _))
  on_begins n k h (taking q rest d) failed b xs m p =
      h (opened m q) (with_closed words choices bound b xs (end_in words failed (start_in xs p) b m (find m.activities p)) m) m q rest d

  next_begins : (n k : ℕ) → Begins n k → (failed : Bool) (b : Open) (xs : List Stint) (p : Name) (others : List Name) (drawn : ℕ) (x : Stepped) →
      (more : List Stint) × (timed_after words choices bound (Stints k) failed b xs p others drawn x
      ≡ timed_after words choices bound (Stints n) failed b xs p others drawn x ++ more)
  next_begins n k h failed b xs p others drawn (ended ending m) = ([], sym (append-nil _))
  next_begins n k h failed b xs p others drawn (went m stays) = h b xs m p others drawn
  next_begins n k h failed b xs p others drawn (went m (joins ps)) = on_begins n k h (take_next choices drawn (others ++ ps)) failed b xs m p

  begins : (n k : ℕ) → n ≤ k → Begins n k
  begins zero k le b xs m p others drawn = adds k b xs m p others drawn
  begins (suc n) zero le b xs m p others drawn = absurd (omega (arith, le))
  begins (suc n) (suc k) le b xs m p others drawn =
      next_begins n k (begins n k (omega (arith, le))) (attempt_fails (fetch words) m p (find m.activities p)) b xs p others drawn
      (step (fetch words) m p others)

module _ (code : CodeParts) (choices : Choices) (system : State) (bound before : ℕ) where
  abbrev pub From : ℕ → MachineRun
  From n =
      after_step choices (run (fetch code.words) choices n) [] [] before (entered (fetch code.words code.entry) code.entry code.calls bound system)

  abbrev Of : ℕ → List Stint
  Of n = stints_of_code code system bound choices before n

  pub longer : (n k : ℕ) → n ≤ k → EndsIn code.words choices bound (From n) → Of k ≡ Of n
  longer n k le e =
      next_settled code.words choices bound n k (settled code.words choices bound n k le) _ _ [] [] [] before
      (entered (fetch code.words code.entry) code.entry code.calls bound system) e

  pub ends_same : (n k : ℕ) → EndsIn code.words choices bound (From n) → EndsIn code.words choices bound (From k) → Of n ≡ Of k
  ends_same n k e f = go (cases_lt n k)
    where
      go : (n < k) ⊎ (k ≤ n) → Of n ≡ Of k
      go (inl l) = sym (longer n k (omega (arith, l)) e)
      go (inr l) = longer k n l f

  -- of a run that has ended, any other has the first stints
  pub begins_same : (n k : ℕ) → EndsIn code.words choices bound (From k) → (more : List Stint) × (Of k ≡ Of n ++ more)
  begins_same n k e = go (cases_lt n k)
    where
      go : (n < k) ⊎ (k ≤ n) → (more : List Stint) × (Of k ≡ Of n ++ more)
      go (inl l) =
          next_begins code.words choices bound n k (begins code.words choices bound n k (omega (arith, l))) _ _ [] [] [] before
          (entered (fetch code.words code.entry) code.entry code.calls bound system)
      go (inr l) = ([], sym (longer k n l e) ∙ sym (append-nil (Of n)))
