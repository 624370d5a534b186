use Rattle.std.proofs.Common.{◌≡◌, drop}
use Rattle.std.specs.Prelude.{map}
use Rattle.edi_disjoint.specs.Found.{variable_of}
use Rattle.edi_disjoint.specs.Openly.{use_of, with_variables}
use Rattle.edi_disjoint.proofs.openly.put_variables.Given as goal

abbrev pub invariant-loop-variable : goal.invariant-loop-variable
invariant-loop-variable l = with_variables l.block (map use_of l.list.items) (map variable_of (drop l.variable-index l.variables))
    ≡ with_variables l.block (map use_of l.fn.list.items) (map variable_of l.variables)
