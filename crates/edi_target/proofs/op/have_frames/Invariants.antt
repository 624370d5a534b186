use Rattle.std.proofs.Common.{◌≡◌, length}
use Rattle.std.specs.List.{list_all}
use Rattle.edi_target.specs.Op.{has_frame}
use Rattle.edi_target.specs.Decode.{branches_of}
use Rattle.edi_target.proofs.op.have_frames.Given as goal

abbrev pub invariant-loop-rest : goal.invariant-loop-rest
invariant-loop-rest l = list_all has_frame (branches_of l.rest) ≡ list_all has_frame (branches_of l.branches)

abbrev pub decreases-loop-rest : goal.decreases-loop-rest
decreases-loop-rest l = length l.rest
