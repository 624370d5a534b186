-- The text of each demonstration is accepted.
use Rattle.std.proofs.Common.{ℕ, ◌+◌, ◌*◌, ◌≤◌, refl, sym, subst}
use Rattle.edi_calls.specs.Choice.{Choices}
use Rattle.edi_calls.specs.Outcome.{Outcome}
use Rattle.edi_calls.specs.State.{State, fresh}
use Rattle.edi_lex.specs.Symbols.{symbols_of}
use Rattle.edi_meaning.specs.Select.{Select}
use Rattle.edi_utils.specs.Demo.{demo_text}
use Rattle.edi_texts.specs.Run.{IsRunOf}
use Rattle.edi_texts.specs.Texts.{AreAccepted, IsUnit}
use Rattle.edi_texts.proofs.Once.{not_both, one_unit}
use Rattle.edi_utils.specs.demonstrated.Demonstrated.{DemonstrationsAreAccepted, DemonstrationsEnd, ShortDemonstrationsEnd, IsAccepted}
use Rattle.edi_utils.specs.demonstrated.Symbols.{demo_marks}
use Rattle.edi_utils.specs.demonstrated.Tree.{demo_tree}
use Rattle.edi_utils.proofs.demonstrated.Symbols.{text_symbols, marks_count}
use Rattle.edi_utils.proofs.demonstrated.Spelling.{is_the_tree}
use Rattle.edi_utils.proofs.demonstrated.Ending.{every_selection, short_selection}
use Rattle.edi_utils.proofs.demonstrated.Resolving.{IsResolved, unit_of, is_resolved}

pub has_unit : (n : ℕ) → 1 ≤ n → n ≤ 1000 → (r : IsResolved n) → IsUnit (demo_text n) (unit_of r.blocks)
has_unit n some few r = subst (λ known. AreAccepted known (unit_of r.blocks)) (sym (text_symbols n some few))
    (record { tree = demo_tree n; tree_is = is_the_tree n; resolved = r.resolved })

accepted : (n : ℕ) → 1 ≤ n → n ≤ 1000 → IsAccepted n
accepted n some few =
    let r = is_resolved n some few in
    let it = has_unit n some few r in
    record {
      marks = demo_marks n;
      last = 3 + 2 * n + 4;
      symbols = text_symbols n some few;
      many = marks_count n some;
      unit = unit_of r.blocks;
      unit_is = it;
      no_calls = refl;
      no_fault = λ pass kind line fault. not_both (symbols_of (demo_text n)) pass kind line (unit_of r.blocks) fault it;
    }

pub demonstrations_are_accepted : DemonstrationsAreAccepted
demonstrations_are_accepted n some few = accepted n some few

-- every execution of the text is one of the unit
run_of_unit : (n : ℕ) → 1 ≤ n → n ≤ 1000 → (u : IsResolved n) (system : State) (bound : ℕ) (choices : Choices) (o : Outcome)
    → IsRunOf (demo_text n) system bound choices o → Select (unit_of u.blocks) (fresh system) bound choices o
run_of_unit n some few u system bound choices o r =
    let same = one_unit (symbols_of (demo_text n)) r.unit (unit_of u.blocks) r.unit_is (has_unit n some few u) in
    subst (λ unit. Select unit (fresh system) bound choices o) same r.run

pub demonstrations_end : DemonstrationsEnd
demonstrations_end n some few system bound choices o enough r =
    let u = is_resolved n some few in
    every_selection n few u.blocks u.are (fresh system) bound choices o enough (run_of_unit n some few u system bound choices o r)

pub short_demonstrations_end : ShortDemonstrationsEnd
short_demonstrations_end n some few system bound choices o less r =
    let u = is_resolved n some few in
    short_selection n few u.blocks u.are (fresh system) bound choices o less (run_of_unit n some few u system bound choices o r)
