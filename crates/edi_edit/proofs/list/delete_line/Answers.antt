use Rattle.std.proofs.Common.{◌≡◌, ◌<◌, ◌-◌, length, get_or, refl, ◌∙◌, ap, arith}
use Rattle.std.specs.Prelude.{remove, []}
use Rattle.edi_edit.specs.Steps.{plain}
use Rattle.edi_edit.proofs.Single.{plain-remove, counted, line_is}
use Rattle.edi_edit.proofs.list.delete_line.Goals as goal

pub returns-clause-exact : goal.returns-clause-exact
returns-clause-exact c =
    let there = c.in_ok-line_index.ensures.ok in
    let line_index : c.in_ok-line_index.line_index ≡ c.args.at - 1 = omega (arith, there.1) in
    let count : c.len.result ≡ length (plain c.args.lines.now.items) = c.len.ensures ∙ counted c.args.lines.now in (
      rw (← count, there.0) refl,
      ap plain c.remove.ensures.items ∙ plain-remove _ _ ∙ ap (λ i. remove (plain c.args.lines.now.items) i) line_index,
    )

pub returns-clause-was : goal.returns-clause-was
returns-clause-was c =
    let there = c.in_ok-line_index.ensures.ok in
    let line_index : c.in_ok-line_index.line_index ≡ c.args.at - 1 = omega (arith, there.1) in
    let within : c.in_ok-line_index.line_index < length c.args.lines.now.items = search (arith, c.remove.ensures.len) in
    line_is _ _ _ within c.remove.ensures.value ∙ ap (λ i. get_or (plain c.args.lines.now.items) i []) line_index
