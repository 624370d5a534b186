use Rattle.std.proofs.Common.{◌≡◌, ◌++◌, drop}
use Rattle.std.specs.Prelude.{map, List, ℕ}
use Rattle.std.specs.Option.{option_map}
use Rattle.edi_unit.specs.View.{expressions, expression_of}
use Rattle.edi_scheme.specs.Pieces.{constant_words}
use Rattle.edi_code.proofs.rows.constant_row.Given as goal

abbrev pub invariant-loop-value : goal.invariant-loop-value
invariant-loop-value l = option_map (λ (ws : List ℕ). l.words.items ++ ws)
    (constant_words (expressions (map expression_of (drop l.value-index l.value-items)))) ≡ constant_words (expressions (map expression_of l.value-items))
