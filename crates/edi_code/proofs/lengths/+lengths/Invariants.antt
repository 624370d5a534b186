use Rattle.std.proofs.Common.{◌≡◌, ◌+◌, drop}
use Rattle.std.specs.Prelude.{map}
use Rattle.edi_unit.specs.View.{expressions, expression_of, links, link_of, parts, part_of, arguments, argument_of}
use Rattle.edi_code.specs.InScope.{expressions_length, members_length, links_length, parts_length, arguments_length}
use Rattle.edi_code.proofs.lengths.+lengths.Given as goal

abbrev pub invariant-make_length-loop-value : goal.invariant-make_length-loop-value
invariant-make_length-loop-value l = l.words + expressions_length l.scope (expressions (map expression_of (drop l.value-index l.value-items)))
    ≡ expressions_length l.scope (expressions (map expression_of l.value-items))

abbrev pub invariant-members_length-loop-member : goal.invariant-members_length-loop-member
invariant-members_length-loop-member l = l.words + members_length l.scope (expressions (map expression_of (drop l.member-index l.member-items)))
    ≡ members_length l.scope (expressions (map expression_of l.member-items))

abbrev pub invariant-links_length-loop-link : goal.invariant-links_length-loop-link
invariant-links_length-loop-link l = l.words + links_length l.scope l.of (links (map link_of (drop l.link-index l.link-items))) ≡ links_length l.scope l.left
    (links (map link_of l.link-items))

abbrev pub invariant-place_length-loop-part : goal.invariant-place_length-loop-part
invariant-place_length-loop-part l = l.words + parts_length l.scope l.of (parts (map part_of (drop l.part-index l.part-items))) ≡ parts_length l.scope
    l.initial.of (parts (map part_of l.part-items))

abbrev pub invariant-arguments_length-loop-argument : goal.invariant-arguments_length-loop-argument
invariant-arguments_length-loop-argument l = l.words + arguments_length l.scope (arguments (map argument_of (drop l.argument-index l.argument-items)))
    ≡ arguments_length l.scope (arguments (map argument_of l.argument-items))
