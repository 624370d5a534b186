-- Whose instruction ended a run: the process whose stint ended it.
use Rattle.std.proofs.Common.{◌≡◌, ℕ, zero, suc, List, [], ◌++◌, Option, Some, None, refl, sym, ◌∙◌, ap}
use Rattle.edi_calls.specs.Choice.{Choices}
use Rattle.edi_calls.specs.Names.{Name}
use Rattle.edi_calls.specs.Outcome as outcome
use Rattle.edi_calls.specs.Ready.{stays, joins, Taking, nobody, taking, take_next}
use Rattle.edi_calls.specs.State.{State}
use Rattle.edi_target.specs.Op.{Instruction}
use Rattle.edi_target.specs.Check.{CodeParts}
use Rattle.edi_target.specs.Fetch.{fetch}
use Rattle.edi_target.specs.Mach.{Machine, Stepped, went, ended, finished, go_on, after_step, run, step, entered}
use Rattle.edi_kernel.specs.Stints as stints
use Rattle.edi_kernel.specs.Stints.{stint, stint_after, goes_with, followed}
use Rattle.edi_kernel.specs.Moments.{Moment, moment, moment_at, moment_on, moment_after, moment_of}
use Rattle.edi_kernel.specs.Enders.{ender, ender_on, ender_after, ender_from_start}
use Rattle.edi_kernel.proofs.Moments.{moment_followed}

module _ (fetch : ℕ → Option (Instruction × ℕ)) where
  -- the machine before the last instruction of a stint that ends the run
  pub record EndsBefore (m : Machine) (p : Name) (others : List Name) (e : outcome.Ending) (m' : Machine) : Type 0 where
    pub steps : ℕ
    pub machine : Machine
    pub is : followed fetch steps m p others ≡ Some machine
    pub last : step fetch machine p others ≡ ended e m'

  ended_same : {m n : Machine} {e f : outcome.Ending} → stints.over e m ≡ stints.over f n → ended e m ≡ ended f n
  ended_same e = cc

  ends_before : (n : ℕ) (m : Machine) (p : Name) (others : List Name) (e : outcome.Ending) (m' : Machine) → stint fetch n m p others ≡ stints.over e m'
      → EndsBefore m p others e m'
  ends_before zero m p others e m' h = absurd (cc)
  ends_before (suc n) m p others e m' h = by_step (step fetch m p others) refl h (λ l. ends_before n l p others e m')
    where
      by_step : (s : Stepped) → step fetch m p others ≡ s → stint_after (λ m. stint fetch n m p others) s ≡ stints.over e m' →
          ((l : Machine) → stint fetch n l p others ≡ stints.over e m' → EndsBefore l p others e m') → EndsBefore m p others e m'
      by_step (went l stays) f g more =
          let x : EndsBefore l p others e m' = more l g in
          record {
            steps = suc x.steps;
            machine = x.machine;
            is = ap (goes_with (λ m. followed fetch x.steps m p others)) f ∙ x.is;
            last = x.last;
          }
      by_step (went l (joins qs)) f g more = absurd (cc)
      by_step (ended d l) f g more = record { steps = 0; machine = m; is = refl; last = f ∙ ended_same g }

  module _ (choices : Choices) (at : Moment) (e : outcome.Ending) (m' : Machine) (last : step fetch at.machine at.name at.others ≡ ended e m') where
    -- the run from here ends by the instruction at this moment
    abbrev EndsHere : (n : ℕ) → Machine → Name → List Name → ℕ → Type 0
    EndsHere n m p others drawn =
        (ender fetch choices n m p others drawn ≡ Some at.name) × (run fetch choices n m p others drawn ≡ finished e m' at.drawn)

    abbrev Leads : ℕ → Type 0
    Leads n = (m : Machine) (p : Name) (others : List Name) (drawn : ℕ) → moment fetch choices n m p others drawn ≡ Some at → EndsHere (suc n) m p others drawn

    leads_after : (n : ℕ) → Leads n → (p : Name) (others : List Name) (drawn : ℕ) (s : Stepped)
        → moment_after choices (moment fetch choices n) p others drawn s ≡ Some at →
        (ender_after choices (ender fetch choices (suc n)) p others drawn s ≡ Some at.name)
        × (after_step choices (run fetch choices (suc n)) p others drawn s ≡ finished e m' at.drawn)
    leads_after n more p others drawn (ended d l) h = absurd (cc)
    leads_after n more p others drawn (went l stays) h = more l p others drawn h
    leads_after n more p others drawn (went l (joins ps)) h = by_taking (take_next choices drawn (others ++ ps)) h
      where
        by_taking : (t : Taking) → moment_on t (moment fetch choices n l) ≡ Some at →
            (ender_on t (ender fetch choices (suc n) l) ≡ Some at.name) × (go_on t (run fetch choices (suc n) l) l drawn ≡ finished e m' at.drawn)
        by_taking nobody h = absurd (cc)
        by_taking (taking q rest later) h = more l q rest later h

    leads : (n : ℕ) → Leads n
    leads zero m p others drawn h = (
      ap (ender_after choices (ender fetch choices 0) p others drawn) here ∙ ap (λ (x : Moment). Some x.name) same,
      ap (after_step choices (run fetch choices 0) p others drawn) here ∙ ap (λ (x : Moment). finished e m' x.drawn) same,
    )
      where
        some_is : {x y : Moment} → Some x ≡ Some y → x ≡ y
        some_is e = cc

        same : moment_at m p others drawn ≡ at
        same = some_is h

        here : step fetch m p others ≡ ended e m'
        here = ap (λ (x : Moment). step fetch x.machine x.name x.others) same ∙ last
    leads (suc n) m p others drawn h = leads_after n (leads n) p others drawn (step fetch m p others) h

-- a run from the start ends by this instruction
pub record EndsBy (code : CodeParts) (system : State) (bound : ℕ) (choices : Choices) (before : ℕ) (e : outcome.Ending) (m : Machine) (p : Name) (drawn : ℕ) :
    Type 0 where
  pub steps : ℕ
  pub is : after_step choices (run (fetch code.words) choices steps) [] [] before (entered (fetch code.words code.entry) code.entry code.calls bound system)
      ≡ finished e m drawn
  pub ran : ender_from_start (fetch code.words) code.entry code.calls system bound choices before steps ≡ Some p

-- a stint of p ends the run, which passes through the machine with which the stint begins
pub ends_by : (code : CodeParts) (system : State) (bound : ℕ) (choices : Choices) (before : ℕ) (m : Machine) (p : Name) (others : List Name) (drawn : ℕ) →
    ((n : ℕ) (x : Option Moment) → moment (fetch code.words) choices n m p others drawn ≡ x → (j : ℕ) × (moment_of code system bound choices before j ≡ x))
    → (n : ℕ) (e : outcome.Ending) (m' : Machine) → stint (fetch code.words) n m p others ≡ stints.over e m' →
    EndsBy code system bound choices before e m' p drawn
ends_by code system bound choices before m p others drawn passes n e m' h =
    let x : EndsBefore (fetch code.words) m p others e m' = ends_before (fetch code.words) n m p others e m' h in
    let at : Moment = moment_at x.machine p others drawn in
    let z : (j : ℕ) × (moment_of code system bound choices before j ≡ Some at) =
    passes x.steps (Some at) (moment_followed (fetch code.words) choices x.steps m p others drawn x.machine x.is) in
    let w = leads_after (fetch code.words) choices at e m' x.last z.0 (leads (fetch code.words) choices at e m' x.last z.0) [] [] before
    (entered (fetch code.words code.entry) code.entry code.calls bound system) z.1 in
    record { steps = suc z.0; is = w.1; ran = w.0 }
