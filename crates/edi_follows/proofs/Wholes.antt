-- The theorem, from the claims for steps and for the start.
use Rattle.std.proofs.Common.{◌≡◌, ℕ, zero, suc, ◌-◌, List, [], ◌∷◌, sym, subst, ap, ◌∙◌}
use Rattle.edi_calls.specs.Choice.{Choices}
use Rattle.edi_calls.specs.Names.{Name}
use Rattle.edi_calls.specs.Outcome as outcome
use Rattle.edi_calls.specs.Outcome.{Ending, Outcome, outcome_of}
use Rattle.edi_calls.specs.State.{State, Traced, begun}
use Rattle.edi_meaning.specs.Step as source
use Rattle.edi_meaning.specs.Select as selection
use Rattle.edi_meaning.specs.Select.{finished, stepped_first, select, Select}
use Rattle.edi_meaning.proofs.Selections.{stepped_before, every_selection_ends}
use Rattle.edi_target.specs.Mach as target
use Rattle.edi_target.specs.Mach.{Machine, Mach}
use Rattle.edi_target.specs.Moments.{history_after, history, EndsThrough, ComesThrough}
use Rattle.edi_target.proofs.Runs.{runs_are_determined}
use Rattle.edi_target.proofs.Histories.{comes_through_its_past}
use Rattle.edi_follows.specs.places.Coded.{Coded}
use Rattle.edi_follows.specs.places.Lands.{StepClaim, StepsCohere, StepsQueue, StartClaim, Begins, BeginsNot}
use Rattle.edi_follows.proofs.Assembly.{main, Ends}

module _ (g : Coded) (claim : StepClaim g) (start : StartClaim g) (cohere : StepsCohere) (queues : StepsQueue) where
  abbrev pub CodeEnds : State → ℕ → Choices → Ending → Traced → (turns drawn : ℕ) → Type 0
  CodeEnds system bound choices ending end turns drawn =
      (m : Machine) × EndsThrough g.fetched 0 g.unit.calls system bound choices 0 ending m drawn end.past × (m.system ≡ end.now) × (m.turns ≡ turns)

  first_ends : (n : ℕ) (choices : Choices) (system : State) (bound : ℕ) (ending : Ending) (end : Traced) (turns drawn : ℕ) (order : List Name) →
      selection.after_step choices (select g.unit choices n) [] [] [] 0 (source.step g.unit (source.start g.unit system bound) [])
      ≡ finished ending end turns drawn order → CodeEnds system bound choices ending end turns drawn
  first_ends n choices system zero ending end turns drawn order e =
      let b : BeginsNot g system = start.begins_not system in
      let same_ending : outcome.turns ≡ ending = (cc) in
      let same_drawn : 0 ≡ drawn = (cc) in
      let same_system : begun system ≡ end = (cc) in
      let same_turns : 0 ≡ turns = (cc) in (
        b.machine,
        (
          0,
          ap (target.after_step choices (target.run g.fetched choices 0) [] [] 0) b.entered ∙ (λ i. target.finished (same_ending i) b.machine (same_drawn i)),
          ap (history_after choices (history g.fetched choices 0) [] [] 0 []) b.entered ∙ ap (λ (y : Traced). y.past) same_system,
        ),
        b.system_is ∙ ap (λ (y : Traced). y.now) same_system,
        b.turns_are ∙ same_turns,
      )
  first_ends n choices system (suc k) ending end turns drawn order e =
      let b : Begins g system k = start.begins system k in
      let r : Ends g choices b.machine b.state.world.system.past [] [] 0 ending end turns drawn =
      main g choices claim cohere queues n b.state b.machine [] [] [] 0 b.taken ending end turns drawn order
      (sym (ap (selection.after_step choices (select g.unit choices n) [] [] [] 0) b.stepped) ∙ e) in (
        r.1,
        (
          r.0,
          ap (target.after_step choices (target.run g.fetched choices r.0) [] [] 0) b.entered ∙ r.2,
          ap (history_after choices (history g.fetched choices r.0) [] [] 0 []) b.entered ∙ ap (history g.fetched choices r.0 b.machine [] [] 0)
              (sym b.no_past) ∙ r.5,
        ),
        r.3,
        r.4,
      )

  -- every selection's end is that of the run
  pub code_ends : (system : State) (bound : ℕ) (choices : Choices) (ending : Ending) (end : Traced) (turns drawn : ℕ) (order : List Name) →
      selection.Ends g.unit system bound choices ending end turns drawn order → CodeEnds system bound choices ending end turns drawn
  code_ends system bound choices ending end turns drawn order e = go e.0 e.1
    where
      go : (n : ℕ) → selection.select_from_start g.unit system bound choices n ≡ finished ending end turns drawn order →
          CodeEnds system bound choices ending end turns drawn
      go zero h = absurd (cc)
      go (suc n) h =
          let before : (rest : List Name) ×
          (selection.after_step choices (select g.unit choices n) [] [] [] 0 (source.step g.unit (source.start g.unit system bound) [])
          ≡ finished ending end turns drawn rest) × ([] ∷ rest ≡ order) =
          stepped_before [] (selection.after_step choices (select g.unit choices n) [] [] [] 0
          (source.step g.unit (source.start g.unit system bound) [])) ending end turns drawn order h in
          first_ends n choices system bound ending end turns drawn before.0 before.1

  -- so both sides have one outcome
  pub to_machine : (system : State) (bound : ℕ) (choices : Choices) (o : Outcome) → Select g.unit system bound choices o →
      Mach g.fetched 0 g.unit.calls system bound choices o
  to_machine system bound choices o h =
      let c : CodeEnds system bound choices h.0 h.1 h.2 h.3 = code_ends system bound choices h.0 h.1 h.2 h.3 h.4 h.5 in
      (h.0, c.0, h.3, (c.1.0, c.1.1), h.6 ∙ (λ i. outcome_of (sym c.2 i) h.0 (bound - sym c.3 i) h.3))

  pub to_meaning : (system : State) (bound : ℕ) (choices : Choices) (o : Outcome) → Mach g.fetched 0 g.unit.calls system bound choices o →
      Select g.unit system bound choices o
  to_meaning system bound choices o h =
      let some : (o : Outcome) × Select g.unit system bound choices o = every_selection_ends g.unit system bound choices in
      subst (Select g.unit system bound choices)
      (runs_are_determined g.fetched 0 g.unit.calls system bound choices some.0 o (to_machine system bound choices some.0 some.1) h) some.1

  -- and both come through the same states of the system
  pub moments_to_machine : (system : State) (bound : ℕ) (choices : Choices) (moment : State) → selection.ComesThrough g.unit system bound choices moment →
      ComesThrough g.fetched 0 g.unit.calls system bound choices 0 moment
  moments_to_machine system bound choices moment h =
      let c : CodeEnds system bound choices h.0 h.1 h.2 h.3 = code_ends system bound choices h.0 h.1 h.2 h.3 h.4 h.5 in
      (comes_through_its_past g.fetched 0 g.unit.calls system bound choices 0 h.0 c.0 h.3 h.1.past moment c.1).1 h.6

  pub moments_to_meaning : (system : State) (bound : ℕ) (choices : Choices) (moment : State) →
      ComesThrough g.fetched 0 g.unit.calls system bound choices 0 moment → selection.ComesThrough g.unit system bound choices moment
  moments_to_meaning system bound choices moment h =
      let some : (o : Outcome) × Select g.unit system bound choices o = every_selection_ends g.unit system bound choices in
      let s : Select g.unit system bound choices some.0 = some.1 in
      let c : CodeEnds system bound choices s.0 s.1 s.2 s.3 = code_ends system bound choices s.0 s.1 s.2 s.3 s.4 s.5 in
      (s.0, s.1, s.2, s.3, s.4, s.5, (comes_through_its_past g.fetched 0 g.unit.calls system bound choices 0 s.0 c.0 s.3 s.1.past moment c.1).0 h)
