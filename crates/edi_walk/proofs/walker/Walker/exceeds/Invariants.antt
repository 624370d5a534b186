use Rattle.std.proofs.Common.{◌≡◌, drop}
use Rattle.std.specs.List.{list_any}
use Rattle.edi_unit.specs.View.{unit_of}
use Rattle.edi_meaning.specs.Step.{exceeds}
use Rattle.edi_walk.proofs.walker.Walker.exceeds.Given as goal

abbrev pub invariant-loop-number : goal.invariant-loop-number
invariant-loop-number l =
    list_any (exceeds (unit_of l.self.evaluation.unit.now) l.share) (drop l.number-index l.branches)
    ≡ list_any (exceeds (unit_of l.self.evaluation.unit.now) l.share) l.branches
