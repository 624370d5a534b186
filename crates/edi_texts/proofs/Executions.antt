-- An accepted text has one outcome, which is never bad; and code that is made of the unit of a text does what the text does, where it
-- does what the unit means.
use Rattle.std.proofs.Common.{◌≡◌, ◌≤◌, ◌+◌, ◌*◌, ℕ, List, length, sym, subst, ap}
use Rattle.std.specs.Prelude.{◌↔◌}
use Rattle.edi_calls.specs.Choice.{Choices}
use Rattle.edi_calls.specs.Outcome.{Ending, Outcome}
use Rattle.edi_calls.specs.State.{State, fresh}
use Rattle.edi_lex.specs.Symbols.{symbols_of}
use Rattle.edi_meaning.specs.Select as source
use Rattle.edi_meaning.specs.Select.{Select}
use Rattle.edi_meaning.specs.Bad.{IsNoBad}
use Rattle.edi_meaning.proofs.NeverBad.{selection_is_never_bad}
use Rattle.edi_meaning.proofs.Selections.{every_selection_ends, selections_are_determined}
use Rattle.edi_target.specs.Check.{CodeParts, IsSound}
use Rattle.edi_unit.specs.Tree.{ProgramUnit}
use Rattle.edi_texts.specs.Texts.{IsUnit}
use Rattle.edi_texts.specs.Length.{symbol_count}
use Rattle.edi_texts.specs.Executions.{AcceptedTextsRun, TextsHaveOneOutcome, RunsAreNeverBad}
use Rattle.edi_texts.specs.Run.{IsRunOfCode, IsMomentOfCode, IsCallOfCode, HasCallOf, IsCodeFor}
use Rattle.edi_texts.proofs.Once.{one_unit}

pub accepted_texts_run : AcceptedTextsRun
accepted_texts_run text unit is system bound choices =
    let end = every_selection_ends unit (fresh system) bound choices in (end.0, record { unit = unit; unit_is = is; run = end.1 })

pub one_outcome : TextsHaveOneOutcome
one_outcome text system bound choices one other h k =
    let same : h.unit ≡ k.unit = one_unit (symbols_of text) h.unit k.unit h.unit_is k.unit_is in
    selections_are_determined k.unit (fresh system) bound choices one other (subst (λ u. Select u (fresh system) bound choices one) same h.run) k.run

pub runs_are_never_bad : RunsAreNeverBad
runs_are_never_bad text system bound choices outcome h =
    let P : Ending → Type 0 = λ e. IsNoBad e in
    subst P (sym (ap (λ (o : Outcome). o.ending) h.run.6))
    (selection_is_never_bad h.unit (fresh system) bound choices h.run.0 h.run.1 h.run.2 h.run.3 h.run.4 h.run.5)

-- code that has the outcomes, the moments and the calls of the unit of a text
pub code_for : (text : List ℕ) (unit : ProgramUnit) (code : CodeParts) → IsUnit text unit → IsSound code → length code.words ≤ 8 * symbol_count text + 64
    → ((system : State) (bound : ℕ) (choices : Choices) (outcome : Outcome) → IsRunOfCode code system bound choices outcome ↔ Select unit
    (fresh system) bound choices outcome)
    → ((system : State) (bound : ℕ) (choices : Choices) (moment : State) → IsMomentOfCode code system bound choices moment ↔ source.ComesThrough unit
    (fresh system) bound choices moment)
    → ((system : State) (bound : ℕ) (choices : Choices) (before next : State) → IsCallOfCode code system bound choices before next ↔ HasCallOf unit
    (fresh system) bound choices before next)
    → IsCodeFor text code
code_for text unit code is sound short outcomes moments calls = record {
  sound = sound;
  short = short;
  same = λ system bound choices outcome. (
    λ h. record { unit = unit; unit_is = is; run = (outcomes system bound choices outcome).0 h },
    λ h. (outcomes system bound choices outcome).1
        (subst (λ u. Select u (fresh system) bound choices outcome) (one_unit (symbols_of text) h.unit unit h.unit_is is) h.run),
  );
  through = λ system bound choices moment. (
    λ h. record { unit = unit; unit_is = is; moment_is = (moments system bound choices moment).0 h },
    λ h. (moments system bound choices moment).1
        (subst (λ u. source.ComesThrough u (fresh system) bound choices moment) (one_unit (symbols_of text) h.unit unit h.unit_is is) h.moment_is),
  );
  calls = λ system bound choices before next. (
    λ h. record { unit = unit; unit_is = is; call_is = (calls system bound choices before next).0 h },
    λ h. (calls system bound choices before next).1
        (subst (λ u. HasCallOf u (fresh system) bound choices before next) (one_unit (symbols_of text) h.unit unit h.unit_is is) h.call_is),
  );
}
