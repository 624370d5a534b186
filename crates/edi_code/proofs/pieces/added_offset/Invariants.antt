use Rattle.std.proofs.Common.{◌≡◌, ◌+◌, take}
use Rattle.std.specs.Prelude.{sum_by}
use Rattle.edi_unit.specs.Need.{block_at, slots, slot_words, link_words}
use Rattle.edi_code.specs.Scope.{types_in, blocks_in}
use Rattle.edi_code.proofs.pieces.added_offset.Given as goal

abbrev pub invariant-loop-before : goal.invariant-loop-before
invariant-loop-before l = l.words ≡ link_words + sum_by (slot_words (types_in l.scope)) (take l.before (slots (block_at (blocks_in l.scope) l.block)))
