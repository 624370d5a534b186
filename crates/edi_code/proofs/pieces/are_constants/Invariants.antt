use Rattle.std.proofs.Common.{◌≡◌, drop}
use Rattle.std.specs.Prelude.{map, is_some}
use Rattle.edi_unit.specs.View.{expressions, expression_of}
use Rattle.edi_scheme.specs.Pieces.{constant_words}
use Rattle.edi_code.proofs.pieces.are_constants.Given as goal

abbrev pub invariant-loop-value : goal.invariant-loop-value
invariant-loop-value l = is_some (constant_words (expressions (map expression_of (drop l.value-index l.value-items)))) ≡ is_some
    (constant_words (expressions (map expression_of l.value-items)))
