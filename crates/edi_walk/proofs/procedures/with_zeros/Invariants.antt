use Rattle.std.proofs.Common.{◌≡◌, ◌++◌, drop}
use Rattle.std.specs.Prelude.{map}
use Rattle.edi_unit.specs.Values.{zero_value}
use Rattle.edi_meaning.specs.Store.{value}
use Rattle.edi_walk.specs.Data.{cell_of}
use Rattle.edi_walk.proofs.procedures.with_zeros.Given as goal

abbrev pub invariant-loop-of : goal.invariant-loop-of
invariant-loop-of l =
    map cell_of l.cells.items ++ map (λ t. value (zero_value l.types t)) (drop l.of-index l.variables)
    ≡ map cell_of l.initial.cells.items ++ map (λ t. value (zero_value l.types t)) l.variables
