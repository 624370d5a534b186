use Rattle.std.proofs.Common.{◌+◌}
use Rattle.edi_code.proofs.Listed.{Left, of_values, of_members, of_links, of_parts, of_arguments}
use Rattle.edi_code.proofs.expressions.+emitted.Given as goal

abbrev pub invariant-emit_make-loop-value : goal.invariant-emit_make-loop-value
invariant-emit_make-loop-value l = Left (of_values l.scope) l.fn.out.items l.out.items l.at l.here 0 0 l.value-items l.value-index

abbrev pub invariant-emit_make-loop-member : goal.invariant-emit_make-loop-member
invariant-emit_make-loop-member l = Left (of_members l.scope l.line) l.initial.out.items l.out.items (l.at + 2) l.here 0 0 l.member-items l.member-index

abbrev pub invariant-emit_links-loop-link : goal.invariant-emit_links-loop-link
invariant-emit_links-loop-link l = Left (of_links l.scope) l.fn.out.items l.out.items l.at l.here l.left l.of l.link-items l.link-index

abbrev pub invariant-places::emit_parts-loop-part : goal.invariant-places::emit_parts-loop-part
invariant-places::emit_parts-loop-part l = Left (of_parts l.scope) l.fn.out.items l.out.items l.at l.here l.root l.of l.part-items l.part-index

abbrev pub invariant-places::emit_call-loop-argument : goal.invariant-places::emit_call-loop-argument
invariant-places::emit_call-loop-argument l = Left (of_arguments l.scope) l.fn.out.items l.out.items l.at l.here 0 0 l.argument-items l.argument-index
