use Rattle.std.proofs.Common.{◌≡◌, ◌++◌, drop}
use Rattle.std.specs.Prelude.{map}
use Rattle.edi_meaning.specs.Whole.{words_of_cells}
use Rattle.edi_walk.specs.Data.{cell_of}
use Rattle.edi_walk.proofs.asking.words_in.Given as goal

abbrev pub invariant-loop-cell : goal.invariant-loop-cell
invariant-loop-cell l = l.words.items ++ words_of_cells (map cell_of (drop l.cell-index l.cells)) ≡ words_of_cells (map cell_of l.cells)
