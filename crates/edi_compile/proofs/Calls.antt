-- The code of a unit and the unit have the same calls: what follows one another in the past of the one does so in that of the other.
use Rattle.std.proofs.Common.{◌≡◌, inl, inr, ℕ, List, ◌∷◌, ◌++◌, Option, sym, subst, ap, ◌∙◌, arith}
use Rattle.std.proofs.lemmas.Bool.{cases_lt}
use Rattle.std.proofs.lemmas.List.{append_assoc}
use Rattle.edi_calls.specs.Asked.{IsFollowed}
use Rattle.edi_calls.specs.Choice.{Choices}
use Rattle.edi_calls.specs.Outcome.{Ending, Outcome}
use Rattle.edi_calls.specs.State.{State, Traced}
use Rattle.edi_unit.specs.Tree.{ProgramUnit}
use Rattle.edi_meaning.specs.Select.{Select}
use Rattle.edi_meaning.proofs.Selections.{every_selection_ends}
use Rattle.edi_target.specs.Fetch.{fetch}
use Rattle.edi_target.specs.Mach.{Machine}
use Rattle.edi_target.specs.Op.{Instruction}
use Rattle.edi_target.specs.Moments.{history_from_start, EndsThrough}
use Rattle.edi_target.proofs.Histories.{past_grows, same_past}
use Rattle.edi_scheme.specs.Code.{code_of}
use Rattle.edi_follows.specs.Theorem.{CanBeCoded, CodeEndsAsMeant}
use Rattle.edi_follows.proofs.Coding as coding
use Rattle.edi_follows.proofs.Whole.{steps, starts}
use Rattle.edi_follows.proofs.kernel.Meaning.{steps_cohere, steps_queue}
use Rattle.edi_texts.specs.Run.{HasCallOf}

-- in a longer past
followed_later : (system : State) (news past : List State) (before next : State) → IsFollowed system past before next
    → IsFollowed system (news ++ past) before next
followed_later system news past before next h = record {
  later = news ++ h.later;
  earlier = h.earlier;
  is = ap (λ y. news ++ y) h.is ∙ sym (append_assoc news h.later (next ∷ h.earlier));
  last = h.last;
}

module _ (fetched : ℕ → Option (Instruction × ℕ)) (entry : ℕ) (calls : List ℕ) (system : State) (bound : ℕ) (choices : Choices) where
  -- what is followed after some instructions is followed in the past of the whole run
  pub followed_in_whole : (ending : Ending) (m : Machine) (drawn : ℕ) (past : List State) (before next : State) (n : ℕ)
      → EndsThrough fetched entry calls system bound choices 0 ending m drawn past
      → IsFollowed system (history_from_start fetched entry calls system bound choices 0 n) before next → IsFollowed system past before next
  followed_in_whole ending m drawn past before next n e h = elim (cases_lt e.0 n) [
    | inl l ↦ subst (λ y. IsFollowed system y before next)
        (sym (same_past fetched entry calls system bound choices 0 e.0 n ending m drawn (omega arith) e.1) ∙ e.2) h
    | inr l ↦
        let g : (news : List State) × (history_from_start fetched entry calls system bound choices 0 e.0 ≡ news
        ++ history_from_start fetched entry calls system bound choices 0 n) = past_grows fetched entry calls system bound choices 0 n e.0 l in
        subst (λ y. IsFollowed system y before next) (sym g.1 ∙ e.2)
        (followed_later system g.0 (history_from_start fetched entry calls system bound choices 0 n) before next h)
  ]

ends_as_meant : CodeEndsAsMeant
ends_as_meant = coding.code_ends_as_meant steps starts steps_cohere steps_queue

module _ (unit : ProgramUnit) (can : CanBeCoded unit) (system : State) (bound : ℕ) (choices : Choices) (before next : State) where
  abbrev InCode : Type 0
  InCode = (n : ℕ) × IsFollowed system (history_from_start (fetch (code_of unit)) 0 unit.calls system bound choices 0 n) before next

  abbrev EndsSo : Ending → Traced → (turns drawn : ℕ) → Type 0
  EndsSo ending end turns drawn =
      (m : Machine) × EndsThrough (fetch (code_of unit)) 0 unit.calls system bound choices 0 ending m drawn end.past × (m.system ≡ end.now)
      × (m.turns ≡ turns)

  pub calls_to_meaning : InCode → HasCallOf unit system bound choices before next
  calls_to_meaning h =
      let some : (o : Outcome) × Select unit system bound choices o = every_selection_ends unit system bound choices in
      let s : Select unit system bound choices some.0 = some.1 in
      let c : EndsSo s.0 s.1 s.2 s.3 = ends_as_meant unit can system bound choices s.0 s.1 s.2 s.3 s.4 s.5 in (
        s.0,
        s.1,
        s.2,
        s.3,
        s.4,
        s.5,
        followed_in_whole (fetch (code_of unit)) 0 unit.calls system bound choices s.0 c.0 s.3 s.1.past before next h.0 c.1 h.1,
      )

  pub calls_to_code : HasCallOf unit system bound choices before next → InCode
  calls_to_code h =
      let c : EndsSo h.0 h.1 h.2 h.3 = ends_as_meant unit can system bound choices h.0 h.1 h.2 h.3 h.4 h.5 in
      (c.1.0, subst (λ y. IsFollowed system y before next) (sym c.1.2) h.6)
