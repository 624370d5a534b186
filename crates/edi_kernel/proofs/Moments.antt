-- The moments of a stint are moments of the run.
use Rattle.std.proofs.Common.{◌≡◌, ℕ, zero, suc, List, ◌++◌, Option, Some, refl, ◌∙◌, ap}
use Rattle.edi_calls.specs.Choice.{Choices}
use Rattle.edi_calls.specs.Names.{Name}
use Rattle.edi_calls.specs.Ready.{stays, joins, take_next}
use Rattle.edi_target.specs.Op.{Instruction}
use Rattle.edi_target.specs.Mach.{Machine, Stepped, went, ended, step}
use Rattle.edi_kernel.specs.Stints as stints
use Rattle.edi_kernel.specs.Stints.{stint, stint_after, goes_with, followed}
use Rattle.edi_kernel.specs.Moments.{Moment, moment, moment_on, moment_after}

module _ (fetch : ℕ → Option (Instruction × ℕ)) (choices : Choices) where
  -- behind a switch
  pub moment_switched : (n : ℕ) (m : Machine) (p : Name) (others : List Name) (drawn : ℕ) (m' : Machine) (ps : List Name)
      → stint fetch n m p others ≡ stints.switched m' ps →
      (k : ℕ) (x : Option Moment) → moment_on (take_next choices drawn (others ++ ps)) (moment fetch choices k m') ≡ x → (j : ℕ)
      × (moment fetch choices j m p others drawn ≡ x)
  moment_switched zero m p others drawn m' ps e k x h = absurd (cc)
  moment_switched (suc n) m p others drawn m' ps e k x h = by_step (step fetch m p others) refl e (λ l. moment_switched n l p others drawn m' ps)
    where
      by_step : (s : Stepped) → step fetch m p others ≡ s → stint_after (λ m. stint fetch n m p others) s ≡ stints.switched m' ps →
          ((l : Machine) → stint fetch n l p others ≡ stints.switched m' ps →
          (k : ℕ) (x : Option Moment) → moment_on (take_next choices drawn (others ++ ps)) (moment fetch choices k m') ≡ x → (j : ℕ)
          × (moment fetch choices j l p others drawn ≡ x)) →
          (j : ℕ) × (moment fetch choices j m p others drawn ≡ x)
      by_step (went l stays) f g more =
          let y : (j : ℕ) × (moment fetch choices j l p others drawn ≡ x) = more l g k x h in
          (suc y.0, ap (moment_after choices (moment fetch choices y.0) p others drawn) f ∙ y.1)
      by_step (went l (joins qs)) f g more =
          let same : (l ≡ m') × (qs ≡ ps) = ((cc), (cc)) in (
            suc k,
            ap (moment_after choices (moment fetch choices k) p others drawn) f
                ∙ ap (λ qs. moment_on (take_next choices drawn (others ++ qs)) (moment fetch choices k l)) same.1
                ∙ ap (λ y. moment_on (take_next choices drawn (others ++ ps)) (moment fetch choices k y)) same.0 ∙ h,
          )
      by_step (ended e l) f g more = absurd (cc)

  -- within a stint
  pub moment_followed : (n : ℕ) (m : Machine) (p : Name) (others : List Name) (drawn : ℕ) (m' : Machine) → followed fetch n m p others ≡ Some m' →
      moment fetch choices n m p others drawn ≡ Some (record { machine = m'; name = p; others = others; drawn = drawn })
  moment_followed zero m p others drawn m' e = cc
  moment_followed (suc n) m p others drawn m' e = by_step (step fetch m p others) refl e (λ l. moment_followed n l p others drawn m')
    where
      by_step : (s : Stepped) → step fetch m p others ≡ s → goes_with (λ m. followed fetch n m p others) s ≡ Some m' →
          ((l : Machine) → followed fetch n l p others ≡ Some m' → moment fetch choices n l p others drawn ≡ Some
          (record { machine = m'; name = p; others = others; drawn = drawn })) →
          moment fetch choices (suc n) m p others drawn ≡ Some (record { machine = m'; name = p; others = others; drawn = drawn })
      by_step (went l stays) f g more = ap (moment_after choices (moment fetch choices n) p others drawn) f ∙ more l g
      by_step (went l (joins qs)) f g more = absurd (cc)
      by_step (ended e l) f g more = absurd (cc)
