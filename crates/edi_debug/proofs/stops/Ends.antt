-- The arrivals of a run up to its end are those of any longer run; and those of a shorter one are a beginning of them.
use Rattle.std.proofs.Common.{◌≡◌, ◌⊎◌, inl, inr, ℕ, zero, suc, ◌<◌, ◌≤◌, List, [], ◌∷◌, ◌++◌, Option, refl, sym, ap, ◌∙◌, arith, append_assoc}
use Rattle.std.proofs.lemmas.Bool.{cases_lt}
use Rattle.edi_calls.specs.Choice.{Choices}
use Rattle.edi_calls.specs.Names.{Name}
use Rattle.edi_calls.specs.Outcome.{Ending}
use Rattle.edi_calls.specs.Ready.{stays, joins, Taking, nobody, taking, take_next}
use Rattle.edi_calls.specs.State.{State}
use Rattle.edi_target.specs.Op.{Instruction}
use Rattle.edi_target.specs.Mach.{Machine, Stepped, went, ended, step, MachineRun, unfinished, finished, go_on, after_step, run, entered}
use Rattle.edi_target.specs.Arrivals.{Arrived, arrived_after, arrived_on, arrived_next, arrived, arrived_from_start}

module _ (fetch : ℕ → Option (Instruction × ℕ)) (choices : Choices) where
  -- the run of n instructions has ended
  abbrev EndsIn : MachineRun → Type 0
  EndsIn r = (ending : Ending) × (m : Machine) × (drawn : ℕ) × (r ≡ finished ending m drawn)

  abbrev Settles : ℕ → ℕ → Type 0
  Settles n k = (m : Machine) (p : Name) (others : List Name) (drawn : ℕ) → EndsIn (run fetch choices n m p others drawn) →
      arrived fetch choices k m p others drawn ≡ arrived fetch choices n m p others drawn

  on_settled : (n k : ℕ) → Settles n k → (m : Machine) (x : Taking) (drawn : ℕ) → EndsIn (go_on x (run fetch choices n m) m drawn) →
      arrived_on x (arrived fetch choices k m) ≡ arrived_on x (arrived fetch choices n m)
  on_settled n k h m nobody drawn e = refl
  on_settled n k h m (taking q rest d) drawn e = h m q rest d e

  next_settled : (n k : ℕ) → Settles n k → (p : Name) (others : List Name) (drawn : ℕ) (x : Stepped) →
      EndsIn (after_step choices (run fetch choices n) p others drawn x) →
      arrived_next choices (arrived fetch choices k) p others drawn x ≡ arrived_next choices (arrived fetch choices n) p others drawn x
  next_settled n k h p others drawn (ended ending m) e = refl
  next_settled n k h p others drawn (went m stays) e = h m p others drawn e
  next_settled n k h p others drawn (went m (joins ps)) e = on_settled n k h m (take_next choices drawn (others ++ ps)) drawn e

  settled : (n k : ℕ) → n ≤ k → Settles n k
  settled zero k le m p others drawn e = let none : unfinished ≡ finished e.0 e.1 e.2 = e.3 in absurd (cc)
  settled (suc n) zero le m p others drawn e = absurd (omega (arith, le))
  settled (suc n) (suc k) le m p others drawn e =
      ap (λ l. arrived_after p (step fetch m p others) ++ l)
      (next_settled n k (settled n k (omega (arith, le))) p others drawn (step fetch m p others) e)

  -- a shorter run has a beginning of the arrivals
  abbrev Begins : ℕ → ℕ → Type 0
  Begins n k = (m : Machine) (p : Name) (others : List Name) (drawn : ℕ) →
      (more : List Arrived) × (arrived fetch choices k m p others drawn ≡ arrived fetch choices n m p others drawn ++ more)

  on_begins : (n k : ℕ) → Begins n k → (m : Machine) (x : Taking) →
      (more : List Arrived) × (arrived_on x (arrived fetch choices k m) ≡ arrived_on x (arrived fetch choices n m) ++ more)
  on_begins n k h m nobody = ([], refl)
  on_begins n k h m (taking q rest d) = h m q rest d

  next_begins : (n k : ℕ) → Begins n k → (p : Name) (others : List Name) (drawn : ℕ) (x : Stepped) →
      (more : List Arrived) × (arrived_next choices (arrived fetch choices k) p others drawn x
      ≡ arrived_next choices (arrived fetch choices n) p others drawn x ++ more)
  next_begins n k h p others drawn (ended ending m) = ([], refl)
  next_begins n k h p others drawn (went m stays) = h m p others drawn
  next_begins n k h p others drawn (went m (joins ps)) = on_begins n k h m (take_next choices drawn (others ++ ps))

  begins : (n k : ℕ) → n ≤ k → Begins n k
  begins zero k le m p others drawn = (arrived fetch choices k m p others drawn, refl)
  begins (suc n) zero le m p others drawn = absurd (omega (arith, le))
  begins (suc n) (suc k) le m p others drawn =
      let r : (more : List Arrived) × (arrived_next choices (arrived fetch choices k) p others drawn (step fetch m p others)
      ≡ arrived_next choices (arrived fetch choices n) p others drawn (step fetch m p others) ++ more) =
      next_begins n k (begins n k (omega (arith, le))) p others drawn (step fetch m p others) in (
        r.0,
        ap (λ l. arrived_after p (step fetch m p others) ++ l) r.1
            ∙ sym (append_assoc (arrived_after p (step fetch m p others)) (arrived_next choices (arrived fetch choices n) p others drawn
            (step fetch m p others)) r.0),
      )

  module _ (entry : ℕ) (calls : List ℕ) (system : State) (bound before : ℕ) where
    abbrev From : ℕ → MachineRun
    From n = after_step choices (run fetch choices n) [] [] before (entered (fetch entry) entry calls bound system)

    abbrev Seen : ℕ → List Arrived
    Seen n = arrived_from_start fetch entry calls system bound choices before n

    -- all runs that have ended have the same arrivals
    pub ends_same : (n k : ℕ) → EndsIn (From n) → EndsIn (From k) → Seen n ≡ Seen k
    ends_same n k e f = go (cases_lt n k)
      where
        longer : (n k : ℕ) → n ≤ k → EndsIn (From n) → Seen k ≡ Seen n
        longer n k le e = next_settled n k (settled n k le) [] [] before (entered (fetch entry) entry calls bound system) e

        go : (n < k) ⊎ (k ≤ n) → Seen n ≡ Seen k
        go (inl l) = sym (longer n k (omega (arith, l)) e)
        go (inr l) = longer k n l f

    -- and a run that has not come so far has a beginning of them
    pub begins_same : (n k : ℕ) → EndsIn (From k) → (more : List Arrived) × (Seen k ≡ Seen n ++ more)
    begins_same n k e = go (cases_lt n k)
      where
        go : (n < k) ⊎ (k ≤ n) → (more : List Arrived) × (Seen k ≡ Seen n ++ more)
        go (inl l) = next_begins n k (begins n k (omega (arith, l))) [] [] before (entered (fetch entry) entry calls bound system)
        go (inr l) = ([], sym (next_settled k n (settled k n l) [] [] before (entered (fetch entry) entry calls bound system) e) ∙ nothing_behind (Seen n))
          where
            nothing_behind : (l : List Arrived) → l ≡ l ++ []
            nothing_behind [] = refl
            nothing_behind (y ∷ ys) = ap (λ l. y ∷ l) (nothing_behind ys)
