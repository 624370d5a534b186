use Rattle.std.proofs.Common.{◌≡◌, length}
use Rattle.std.specs.List.{list_any}
use Rattle.edi_target.specs.Perform.{exceeds}
use Rattle.edi_target.specs.Decode.{branches_of}
use Rattle.edi_machine.proofs.processes.exceed.Given as goal

-- none of the branches so far needs more
abbrev pub invariant-loop-rest : goal.invariant-loop-rest
invariant-loop-rest l = list_any (exceeds l.share) (branches_of l.rest) ≡ list_any (exceeds l.share) (branches_of l.branches)

abbrev pub decreases-loop-rest : goal.decreases-loop-rest
decreases-loop-rest l = length l.rest
