-- A run of the code that has ended, with the execution whose stints it has.
use Rattle.std.proofs.Common.{◌≡◌, ℕ, List, refl, sym, subst, ap, ◌∙◌}
use Rattle.edi_calls.specs.Choice.{Choices}
use Rattle.edi_calls.specs.Names.{Name}
use Rattle.edi_calls.specs.Outcome.{Ending, Outcome}
use Rattle.edi_calls.specs.State.{State, Traced}
use Rattle.edi_unit.specs.Tree.{ProgramUnit}
use Rattle.edi_meaning.specs.Select as source
use Rattle.edi_meaning.specs.Select.{Select}
use Rattle.edi_meaning.proofs.Selections.{every_selection_ends}
use Rattle.edi_target.specs.Fetch.{fetch}
use Rattle.edi_target.specs.Mach as target
use Rattle.edi_target.specs.Mach.{Machine}
use Rattle.edi_target.specs.Moments.{EndsThrough, history_from_start}
use Rattle.edi_target.proofs.Histories.{end_is_determined}
use Rattle.edi_scheme.specs.Code.{code_of}
use Rattle.edi_scheme.specs.Laws.{parts_of}
use Rattle.edi_follows.specs.Theorem.{CanBeCoded, CodeEndsAsMeant}
use Rattle.edi_follows.proofs.Coding.{code_ends_as_meant}
use Rattle.edi_follows.proofs.Whole.{steps, starts}
use Rattle.edi_follows.proofs.kernel.Meaning.{steps_cohere, steps_queue}
use Rattle.edi_timeline.specs.Stints.{stints_of}
use Rattle.edi_timed.specs.Ran.{stints_of_code}
use Rattle.edi_timed.specs.meant.Laws.{RunsHaveStints}
use Rattle.edi_timed.proofs.meant.Meant.{stints_are_meant}

ends_as_meant : CodeEndsAsMeant
ends_as_meant = code_ends_as_meant steps starts steps_cohere steps_queue

module _ (unit : ProgramUnit) (c : CanBeCoded unit) (system : State) (bound : ℕ) (choices : Choices) (n : ℕ) (ending : Ending) (m : Machine) (drawn : ℕ)
    (e : target.run_from_start (fetch (code_of unit)) 0 unit.calls system bound choices n ≡ target.finished ending m drawn) where
  with_stints : (outcome : Outcome) × Select unit system bound choices outcome →
      (end : Traced) × (turns : ℕ) × (order : List Name) × source.Ends unit system bound choices ending end turns drawn order
      × (m.system ≡ end.now) × (m.turns ≡ turns)
      × (stints_of_code (parts_of unit) system bound choices 0 n ≡ stints_of unit system bound order)
  with_stints s =
      let h : (t : Machine) × EndsThrough (fetch (code_of unit)) 0 unit.calls system bound choices 0 s.1.0 t s.1.3 (s.1.1).past
      × (t.system ≡ (s.1.1).now) × (t.turns ≡ s.1.2) =
      ends_as_meant unit c system bound choices s.1.0 s.1.1 s.1.2 s.1.3 s.1.4 s.1.5 in
      let one : (s.1.0 ≡ ending) × (h.0 ≡ m) × (s.1.3 ≡ drawn)
      × ((s.1.1).past ≡ history_from_start (fetch (code_of unit)) 0 unit.calls system bound choices 0 n) =
      end_is_determined (fetch (code_of unit)) 0 unit.calls system bound choices 0 s.1.0 ending h.0 m s.1.3 drawn _ _ h.1 (n, e, refl) in
      let selected : source.Ends unit system bound choices ending s.1.1 s.1.2 drawn s.1.4 =
      subst (λ x. x) (λ i. source.Ends unit system bound choices (one.0 i) s.1.1 s.1.2 (one.2 i) s.1.4) s.1.5 in (
        s.1.1,
        s.1.2,
        s.1.4,
        selected,
        ap (λ (t : Machine). t.system) (sym one.1) ∙ h.2,
        ap (λ (t : Machine). t.turns) (sym one.1) ∙ h.3,
        stints_are_meant unit c system bound choices ending s.1.1 s.1.2 drawn s.1.4 selected n ending m drawn e,
      )

pub runs_have_stints : RunsHaveStints
runs_have_stints unit c system bound choices n ending m drawn e =
    with_stints unit c system bound choices n ending m drawn e (every_selection_ends unit system bound choices)
