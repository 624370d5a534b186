use Rattle.std.proofs.Common.{sym, ◌∙◌, arith}
use Rattle.edi_target.proofs.Reading.{are_words, past_end, part_from, unread, nothing_there, found_there, forbidden, ends_there}
use Rattle.edi_target.proofs.read.read_op.Goals as goal

pub returns-in_default-clause-none : goal.returns-in_default-clause-none
returns-in_default-clause-none c = past_end c.args.words.now c.args.at c.in_default.ensures.lookup.0

pub returns-in_default-op_at-clause-none : goal.returns-in_default-op_at-clause-none
returns-in_default-op_at-clause-none c = unread c.args.words.now c.in-Some.rest.now c.args.at
    (part_from _ _ _ c.in-Some.ensures.lookup.0.0 c.in-Some.ensures.lookup.0.2) c.in_default-op_at.ensures.gives

pub returns-in_default-op_at-clause-nothing : goal.returns-in_default-op_at-clause-nothing
returns-in_default-op_at-clause-nothing c = nothing_there _ _ (returns-in_default-op_at-clause-none c)

pub returns-then-is_allowed-clause-found : goal.returns-then-is_allowed-clause-found
returns-then-is_allowed-clause-found c =
    found_there c.args.words.now c.in-Some.rest.now c.args.at _ _ _ (are_words _ c.type_inv.words)
    (part_from _ _ _ c.in-Some.ensures.lookup.0.0 c.in-Some.ensures.lookup.0.2) c.in-Some-op_at.ensures.gives
    (sym c.is_allowed.ensures ∙ c.if-is_allowed.true)

pub returns-else-is_allowed-clause-none : goal.returns-else-is_allowed-clause-none
returns-else-is_allowed-clause-none c =
    forbidden c.args.words.now c.in-Some.rest.now c.args.at _ _ _ (part_from _ _ _ c.in-Some.ensures.lookup.0.0 c.in-Some.ensures.lookup.0.2)
    c.in-Some-op_at.ensures.gives c.in-Some-op_at.ensures.whole (sym c.is_allowed.ensures ∙ c.if-is_allowed.false)

pub returns-else-is_allowed-clause-nothing : goal.returns-else-is_allowed-clause-nothing
returns-else-is_allowed-clause-nothing c = nothing_there _ _ (returns-else-is_allowed-clause-none c)

pub overflow_add-result : goal.overflow_add-result
overflow_add-result c =
    let h =
    ends_there c.args.words.now c.in-Some.rest.now c.args.at _ _ (are_words _ c.type_inv.words) c.in-Some.ensures.lookup.0.0
    (part_from _ _ _ c.in-Some.ensures.lookup.0.0 c.in-Some.ensures.lookup.0.2) c.in-Some-op_at.ensures.gives in
    record { fits = omega (arith, h.1, c.requires) }

pub returns-then-is_allowed-clause-within : goal.returns-then-is_allowed-clause-within
returns-then-is_allowed-clause-within c =
    (ends_there c.args.words.now c.in-Some.rest.now c.args.at _ _ (are_words _ c.type_inv.words) c.in-Some.ensures.lookup.0.0
    (part_from _ _ _ c.in-Some.ensures.lookup.0.0 c.in-Some.ensures.lookup.0.2) c.in-Some-op_at.ensures.gives).1

pub returns-then-is_allowed-clause-after : goal.returns-then-is_allowed-clause-after
returns-then-is_allowed-clause-after c =
    (ends_there c.args.words.now c.in-Some.rest.now c.args.at _ _ (are_words _ c.type_inv.words) c.in-Some.ensures.lookup.0.0
    (part_from _ _ _ c.in-Some.ensures.lookup.0.0 c.in-Some.ensures.lookup.0.2) c.in-Some-op_at.ensures.gives).0
