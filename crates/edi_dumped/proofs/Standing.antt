-- Where a run of the code stands still, the execution stands still in a state with which the machine agrees.
use Rattle.std.proofs.Common.{◌≡◌, ◌⊎◌, inl, inr, ℕ, ◌-◌, ◌<◌, ◌≤◌, List, refl, sym, subst, ap, arith}
use Rattle.std.proofs.lemmas.Bool.{cases_lt}
use Rattle.edi_calls.specs.Choice.{Choices}
use Rattle.edi_calls.specs.Outcome as outcome
use Rattle.edi_calls.specs.Outcome.{Ending, Outcome, outcome_of}
use Rattle.edi_calls.specs.State.{State, Traced}
use Rattle.edi_calls.specs.Names.{Name}
use Rattle.edi_unit.specs.Tree.{ProgramUnit}
use Rattle.edi_meaning.specs.Laws.{LeadsTo}
use Rattle.edi_meaning.specs.Permitted.{permitted}
use Rattle.edi_meaning.specs.Select as selection
use Rattle.edi_meaning.specs.Select.{Select}
use Rattle.edi_meaning.specs.Step.{Processes, start}
use Rattle.edi_meaning.proofs.Dangling.{permitted_coherent}
use Rattle.edi_meaning.proofs.Permitted.{select_is_permitted}
use Rattle.edi_target.specs.Fetch.{fetch}
use Rattle.edi_target.specs.Mach as target
use Rattle.edi_target.specs.Mach.{Machine}
use Rattle.edi_target.proofs.Runs.{same_end}
use Rattle.edi_scheme.specs.Code.{code_of}
use Rattle.edi_follows.specs.Theorem.{CanBeCoded}
use Rattle.edi_follows.specs.places.Coded.{Coded}
use Rattle.edi_follows.specs.places.Related.{Related}
use Rattle.edi_follows.proofs.Whole.{same_outcomes, starts, steps}
use Rattle.edi_follows.proofs.kernel.Meaning.{steps_cohere, steps_queue}
use Rattle.edi_dumped.specs.Standing.{AgreesWith, CodeStandsAsMeant, StandsIn}
use Rattle.edi_dumped.proofs.StandingLess.{runs_from_start}
use Rattle.edi_dumped.proofs.StandingStarted.{is_read, started, started_at}
use Rattle.edi_dumped.proofs.StandingWalk.{stands}

-- ---- what two runs of a code end with is the same

pub last_ending : {a b : Ending} {m t : Machine} {c d : ℕ} → target.finished a m c ≡ target.finished b t d → a ≡ b
last_ending h = cc

pub last_machine : {a b : Ending} {m t : Machine} {c d : ℕ} → target.finished a m c ≡ target.finished b t d → m ≡ t
last_machine h = cc

last_drawn : {a b : Ending} {m t : Machine} {c d : ℕ} → target.finished a m c ≡ target.finished b t d → c ≡ d
last_drawn h = cc

module _ (unit : ProgramUnit) (system : State) (bound : ℕ) (choices : Choices) where
  abbrev pub RunEnds : Ending → Machine → ℕ → Type 0
  RunEnds = target.Ends (fetch (code_of unit)) 0 unit.calls system bound choices

  pub one_end : (a b : Ending) (m t : Machine) (c d : ℕ) → RunEnds a m c → RunEnds b t d → target.finished a m c ≡ target.finished b t d
  one_end a b m t c d x y = go (cases_lt x.0 y.0)
    where
      go : (x.0 < y.0) ⊎ (y.0 ≤ x.0) → target.finished a m c ≡ target.finished b t d
      go (inl h) = same_end (fetch (code_of unit)) 0 unit.calls system bound choices 0 x.0 y.0 a b m t c d (omega (arith, h)) x.1 y.1
      go (inr h) = sym (same_end (fetch (code_of unit)) 0 unit.calls system bound choices 0 y.0 x.0 b a t m d c h y.1 x.1)

-- ---- the law

module _ (unit : ProgramUnit) (c : CanBeCoded unit) (system : State) (bound : ℕ) (choices : Choices) (m : Machine) (drawn : ℕ) where
  abbrev StandsStill : Machine → ℕ → Type 0
  StandsStill = RunEnds unit system bound choices outcome.standstill

  abbrev Meant : Type 0
  Meant = (s : Processes) × StandsIn unit system bound choices s drawn × AgreesWith unit s m

  abbrev Selects : Traced → (turns d : ℕ) → List Name → Type 0
  Selects = selection.Ends unit system bound choices outcome.standstill

  -- with the state to which the steps of the selection lead
  joined : (end : Traced) (turns d : ℕ) (order : List Name) → Selects end turns d order →
      LeadsTo unit (permitted unit order (start unit system bound)) outcome.standstill end turns → StandsStill m drawn → Meant
  joined end turns d order e l r =
      let g : Coded = started unit c in
      let h = stands g choices l.0 d (steps g) steps_cohere steps_queue (starts g) system bound end turns order e l.1 in
      let is : target.finished outcome.standstill h.1 d ≡ target.finished outcome.standstill m drawn =
      one_end unit system bound choices outcome.standstill outcome.standstill h.1 m d drawn (
        h.0,
        runs_from_start (started_at (code_of unit)) (fetch (code_of unit)) (λ a found k. (is_read (code_of unit) a found k).1) choices h.1 d 0 unit.calls system
            bound h.0 h.2,
      ) r in (
        l.0,
        record {
          order = order;
          ends = subst (λ n. Selects l.0.world.system l.0.world.turns n order) (last_drawn is)
              (subst (λ n. Selects l.0.world.system n d order) (sym l.3) (subst (λ x. Selects x turns d order) (sym l.2) e));
          leads = l.1;
          settled = l.4;
        },
        record {
          coded = g;
          of = refl;
          reads = λ a found k. is_read (code_of unit) a found k;
          coherent = permitted_coherent unit system bound order l.0 l.1;
          related = subst (Related g l.0) (last_machine is) h.3;
        },
      )

  abbrev SelectsSo : Ending → Type 0
  SelectsSo ending = (end : Traced) × (turns d : ℕ) × (order : List Name) × selection.Ends unit system bound choices ending end turns d order

  found : SelectsSo outcome.standstill → StandsStill m drawn → Meant
  found h r =
      joined h.0 h.1 h.2 h.3 h.4
      (select_is_permitted unit system bound choices outcome.standstill h.0 h.1 h.2 h.3 h.4) r

  pub meant : StandsStill m drawn → Meant
  meant r =
      let h : Select unit system bound choices (outcome_of m.system outcome.standstill (bound - m.turns) drawn) =
      (same_outcomes unit c system bound choices (outcome_of m.system outcome.standstill (bound - m.turns) drawn)).1
      (outcome.standstill, m, drawn, r, refl) in
      let is : h.0 ≡ outcome.standstill = sym (ap (λ (o : Outcome). o.ending) h.6) in
      found (h.1, h.2, h.3, h.4, subst (λ z. selection.Ends unit system bound choices z h.1 h.2 h.3 h.4) is h.5) r

pub code_stands_as_meant : CodeStandsAsMeant
code_stands_as_meant unit c system bound choices m drawn r = meant unit c system bound choices m drawn r
