use Rattle.std.proofs.Common.{◌++◌, ◌∷◌, [], ap, sym, ◌∙◌, get_or, arith}
use Rattle.std.specs.Prelude.{decimal}
use Rattle.std.proofs.lemmas.List.{take_all}
use Rattle.edi_trace.specs.Lines.{written}
use Rattle.edi_trace.proofs.Writing.{written-more, read_back}
use Rattle.edi_trace.proofs.file.write_choices.Goals as goal

pub loop-value-preserved : goal.loop-value-preserved
loop-value-preserved c =
    let line = decimal (get_or c.args.used.now c.loop-value.value-index 0) ++ 10 ∷ [] in
    c.in_ok-extend_from_slice.ensures.items
    ∙ ap (λ xs. c.loop-value.bytes.items ++ xs) (c.as_bytes.ensures.value ∙ c.in_ok-line.ensures.ok)
    ∙ ap (λ xs. xs ++ line) c.loop-value.invariant
    ∙ sym (written-more c.args.used.now c.loop-value.value-index c.loop-value-test.true)

pub returns-clause-read : goal.returns-clause-read
returns-clause-read c = λ room.
    read_back c.args.used.now c.loop-value.bytes.items (λ i. omega (arith, c.type_inv.used i))
    (c.loop-value.invariant ∙ ap written (take_all _ c.args.used.now c.loop-value-test.false)) room
