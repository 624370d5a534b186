use Rattle.std.proofs.Common.{◌≡◌, ◌∷◌, ◌++◌, [], ap, sym, subst, ◌∙◌, length, length-append, arith}
use Rattle.std.specs.Prelude.{if◌then◌else◌, not}
use Rattle.std.specs.List.{slice_split}
use Rattle.edi_trace.specs.Lines.{is_line_feed}
use Rattle.edi_trace.proofs.Readings.{LinesStand, IsLine, stands_bad, stands_more, choice_none, choice_some, answers_bad}
use Rattle.edi_trace.proofs.file.read_choices.Goals as goal

pub returns-in_default-choice_of : goal.returns-in_default-choice_of
returns-in_default-choice_of c =
    let cut : slice_split is_line_feed c.loop-rest.rest.now ≡ c.in-Some.digits.now ∷ slice_split is_line_feed c.in-Some.after.now =
    c.in-Some.ensures.cut in
    let bad = stands_bad c.loop-rest.values.items _ _ c.in-Some.digits.now c.in-Some.after.now c.loop-rest.invariant.stands cut
    (choice_none c.in-Some.digits.now (sym c.in_default-choice_of.is ∙ c.choice_of.ensures)) in
    answers_bad (λ v. v.items) _ _ _ bad (omega (arith, c.len.ensures))

pub loop-rest-preserved : goal.loop-rest-preserved
loop-rest-preserved c =
    let cut : slice_split is_line_feed c.loop-rest.rest.now ≡ c.in-Some.digits.now ∷ slice_split is_line_feed c.in-Some.after.now =
    c.in-Some.ensures.cut in
    let list = c.loop-rest.values.items in
    let value = c.in-Some-choice_of.value in
    let grown : c.push.new.self.items ≡ list ++ value ∷ [] =
    c.push.ensures.items ∙ ap (λ b. if b then list ++ value ∷ [] else list) (c.is_err.ensures.negation ∙ ap not c.if-is_err.false) in
    let line : IsLine c.in-Some.digits.now value =
    choice_some c.in-Some.digits.now value (sym c.in-Some-choice_of.is ∙ c.choice_of.ensures) in
    let stands = stands_more list _ _ c.in-Some.digits.now c.in-Some.after.now c.loop-rest.invariant.stands cut line.good
    (omega (arith, c.len-in-loop-rest.ensures)) in
    record {
      stands = subst (λ xs. LinesStand xs c.in-Some.after.now c.args.bytes.now) (ap (λ v. list ++ v ∷ []) line.value_is ∙ sym grown) stands;
      bound = omega (arith, ap length grown, length-append list (value ∷ []), c.len-in-loop-rest.ensures);
    }
