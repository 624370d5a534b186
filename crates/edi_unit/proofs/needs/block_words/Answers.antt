use Rattle.std.proofs.Common.{◌≡◌, ◌+◌, [], ◌∙◌, ap, subst, arith}
use Rattle.std.specs.Prelude.{sum_by}
use Rattle.std.proofs.lemmas.List.{drop_all}
use Rattle.edi_unit.specs.Lists.{list_items}
use Rattle.edi_unit.specs.Types.{size}
use Rattle.edi_unit.specs.Need.{limited, slot_words}
use Rattle.edi_unit.specs.View.{block_of}
use Rattle.edi_unit.proofs.Slots.{words_sum}
use Rattle.edi_unit.proofs.needs.block_words.Goals as goal

pub returns-clause-exact : goal.returns-clause-exact
returns-clause-exact c =
    let slot = slot_words c.args.types.now in
    let of = size c.args.types.now in
    let some = c.items-parameter-items.result.now in
    let more = c.items-variable-items.result.now in
    let last : limited (c.loop-parameter.parameters + sum_by slot []) ≡ limited (sum_by slot some) =
    subst (λ l. limited (c.loop-parameter.parameters + sum_by slot l) ≡ limited (sum_by slot some))
    (drop_all c.loop-parameter.parameter-index some (omega (arith, c.loop-parameter-test.false))) c.loop-parameter.invariant.words in
    let late : limited (c.loop-variable.variables + sum_by of []) ≡ limited (sum_by of more) =
    subst (λ l. limited (c.loop-variable.variables + sum_by of l) ≡ limited (sum_by of more))
    (drop_all c.loop-variable.variable-index more (omega (arith, c.loop-variable-test.false))) c.loop-variable.invariant.words in
    let parameters : c.loop-parameter.parameters ≡ limited (sum_by slot (list_items c.args.block.now.parameters)) =
    omega (arith, last, c.loop-parameter.invariant.small) ∙ ap (λ l. limited (sum_by slot l)) c.items-parameter-items.ensures.exact in
    let variables : c.loop-variable.variables ≡ limited (sum_by of (list_items c.args.block.now.variables)) =
    omega (arith, late, c.loop-variable.invariant.small) ∙ ap (λ l. limited (sum_by of l)) c.items-variable-items.ensures.exact in
    omega (
      arith,
      parameters,
      variables,
      c.returned_words.ensures.exact,
      c.sum.ensures.exact,
      c.sum-2.ensures.exact,
      words_sum c.args.types.now (block_of c.args.block.now),
    )
