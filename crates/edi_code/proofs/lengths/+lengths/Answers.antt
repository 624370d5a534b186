use Rattle.std.proofs.Common.{◌+◌, refl, ap, arith}
use Rattle.edi_unit.specs.Lists.{list_items}
use Rattle.edi_unit.proofs.Limits.{drop_item}
use Rattle.edi_code.proofs.Constants.{row_long}
use Rattle.edi_code.proofs.Listed.{item_longer, of_values, of_members, of_parts, of_arguments}
use Rattle.edi_code.proofs.lengths.+lengths.Goals as goal

pub make_length-overflow_cast-result : goal.make_length-overflow_cast-result
make_length-overflow_cast-result t c =
    let long = row_long c.args.scope.now c.args.of (list_items c.args.parts.now) _ _ c.if-is_set.false c.if-are_constants.true c.is_set.ensures.exact
    c.are_constants.ensures.exact in
    omega (arith, long, c.requires.small, c.len.ensures.exact)

pub make_length-overflow_add-result-then-are_constants : goal.make_length-overflow_add-result-then-are_constants
make_length-overflow_add-result-then-are_constants t c =
    let long = row_long c.args.scope.now c.args.of (list_items c.args.parts.now) _ _ c.if-is_set.false c.if-are_constants.true c.is_set.ensures.exact
    c.are_constants.ensures.exact in
    omega (arith, long, c.requires.small, c.len.ensures.exact)

pub make_length-returns-then-are_constants : goal.make_length-returns-then-are_constants
make_length-returns-then-are_constants t c =
    let long = row_long c.args.scope.now c.args.of (list_items c.args.parts.now) _ _ c.if-is_set.false c.if-are_constants.true c.is_set.ensures.exact
    c.are_constants.ensures.exact in
    omega (arith, long, c.len.ensures.exact)

pub make_length-loop-value-preserved : goal.make_length-loop-value-preserved
make_length-loop-value-preserved t c =
    item_longer (of_values c.args.scope.now) 0 0 0 _ _ _ _ _ (drop_item _ _ _ c.loop-value-test.true c.value-item.is) c.loop-value.invariant
    refl c.value_length-words.ensures.exact

pub members_length-loop-member-preserved : goal.members_length-loop-member-preserved
members_length-loop-member-preserved t c =
    item_longer (of_members c.args.scope.now 0) 0 0 0 _ _ _ _ _ (drop_item _ _ _ c.loop-member-test.true c.member-item.is) c.loop-member.invariant
    refl (ap (λ n. n + 2) c.value_length.ensures.exact)

pub place_length-loop-part-preserved : goal.place_length-loop-part-preserved
place_length-loop-part-preserved t c =
    item_longer (of_parts c.args.scope.now) c.slot_type-of.result c.loop-part.of _ _ _ _ _ _ (drop_item _ _ _ c.loop-part-test.true c.part-item.is) c.loop-part.invariant
    c.part_type-of.ensures.exact c.part_length-words.ensures.exact

pub arguments_length-loop-argument-preserved : goal.arguments_length-loop-argument-preserved
arguments_length-loop-argument-preserved t c =
    item_longer (of_arguments c.args.scope.now) 0 0 0 _ _ _ _ _ (drop_item _ _ _ c.loop-argument-test.true c.argument-item.is) c.loop-argument.invariant
    refl c.argument_length-words.ensures.exact
