use Rattle.std.proofs.Common.{◌≡◌, ◌≤◌, ◌+◌, length}
use Rattle.edi_explain.specs.told.Names.{is_parameter}
use Rattle.edi_explain.proofs.told.names.is_parameter.Given as goal

abbrev pub invariant-loop-rest : goal.invariant-loop-rest
invariant-loop-rest l = record {
  few : l.depth + length l.rest ≤ 257;
  same : is_parameter l.letters l.depth l.last l.rest ≡ is_parameter l.letters 1 0 l.heading;
}

abbrev pub decreases-loop-rest : goal.decreases-loop-rest
decreases-loop-rest l = length l.rest
