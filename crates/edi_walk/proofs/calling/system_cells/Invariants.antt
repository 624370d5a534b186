use Rattle.std.proofs.Common.{◌≡◌, ◌++◌, drop}
use Rattle.std.specs.Prelude.{map}
use Rattle.edi_meaning.specs.Store.{procedure, system_procedure}
use Rattle.edi_walk.specs.Data.{cell_of}
use Rattle.edi_walk.proofs.calling.system_cells.Given as goal

abbrev pub invariant-loop-number : goal.invariant-loop-number
invariant-loop-number l =
    map cell_of l.cells.items ++ map (λ n. procedure (system_procedure n)) (drop l.number-index l.numbers)
    ≡ map (λ n. procedure (system_procedure n)) l.numbers
