use Rattle.std.proofs.Common.{◌≡◌, ◌≤◌, drop}
use Rattle.std.specs.Prelude.{map, max}
use Rattle.edi_unit.specs.View.{block_of, expressions, expression_of, links, link_of, parts, part_of, arguments, argument_of}
use Rattle.edi_unit.specs.Need.{limited, too_large, members_height, compound_height, links_height, parts_height, arguments_height}
use Rattle.edi_unit.proofs.Loops.{Heightens, Stacks}
use Rattle.edi_unit.proofs.heights.+heights.Given as goal

abbrev pub invariant-make_words-loop-member : goal.invariant-make_words-loop-member
invariant-make_words-loop-member l = record {
  least : 8 ≤ l.words;
  small : l.words ≤ too_large;
  height : limited (max l.words (members_height l.types (map block_of l.blocks) l.block
      (expressions (map expression_of (drop l.member-index l.member-items))))) ≡ limited
      (members_height l.types (map block_of l.blocks) l.block (expressions (map expression_of l.member-items)));
}

abbrev pub invariant-make_words-loop-part : goal.invariant-make_words-loop-part
invariant-make_words-loop-part l =
    Stacks expression_of expressions (compound_height l.types (map block_of l.blocks) l.block) l.before l.words l.part-index l.part-items

abbrev pub invariant-links_words-loop-link : goal.invariant-links_words-loop-link
invariant-links_words-loop-link l = record {
  small : l.words ≤ too_large;
  height : limited (max l.words (links_height l.types (map block_of l.blocks) l.block l.of (links (map link_of (drop l.link-index l.link-items))))) ≡ limited
      (links_height l.types (map block_of l.blocks) l.block l.left (links (map link_of l.link-items)));
}

abbrev pub invariant-place_words-loop-part : goal.invariant-place_words-loop-part
invariant-place_words-loop-part l =
    Heightens part_of parts (parts_height l.types (map block_of l.blocks) l.block) l.words l.part-index l.part-items

abbrev pub invariant-arguments_words-loop-argument : goal.invariant-arguments_words-loop-argument
invariant-arguments_words-loop-argument l =
    Stacks argument_of arguments (arguments_height l.types (map block_of l.blocks) l.block) l.before l.words l.argument-index l.argument-items
