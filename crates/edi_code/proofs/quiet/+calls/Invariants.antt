use Rattle.std.proofs.Common.{◌≡◌, drop}
use Rattle.std.specs.Prelude.{map}
use Rattle.edi_unit.specs.View.{expressions, expression_of, links, link_of, parts, part_of}
use Rattle.edi_meaning.specs.Step as step
use Rattle.edi_code.proofs.quiet.+calls.Given as goal

abbrev pub invariant-any_calls-loop-value : goal.invariant-any_calls-loop-value
invariant-any_calls-loop-value l = step.any_calls (expressions (map expression_of (drop l.value-index l.value-items))) ≡ step.any_calls
    (expressions (map expression_of l.value-items))

abbrev pub invariant-links_call-loop-link : goal.invariant-links_call-loop-link
invariant-links_call-loop-link l = step.links_call (links (map link_of (drop l.link-index l.link-items))) ≡ step.links_call (links (map link_of l.link-items))

abbrev pub invariant-parts_call-loop-part : goal.invariant-parts_call-loop-part
invariant-parts_call-loop-part l = step.parts_call (parts (map part_of (drop l.part-index l.part-items))) ≡ step.parts_call (parts (map part_of l.part-items))
