use Rattle.std.proofs.Common.{◌≡◌, length}
use Rattle.edi_target.specs.Op.{Branch}
use Rattle.edi_target.specs.Decode.{branches_of}
use Rattle.edi_target.specs.Check.{first_fault, is_set, unless}
use Rattle.edi_target.specs.declared.code_fault.CodeFault.TheVariants as fault
use Rattle.edi_target.proofs.targets.branches_fault.Given as goal

abbrev pub invariant-loop-rest : goal.invariant-loop-rest
invariant-loop-rest l =
    first_fault (λ (b : Branch). unless (is_set l.starts b.address) (fault.Jump l.at b.address)) (branches_of l.rest)
    ≡ first_fault (λ (b : Branch). unless (is_set l.starts b.address) (fault.Jump l.at b.address)) (branches_of l.branches)

abbrev pub decreases-loop-rest : goal.decreases-loop-rest
decreases-loop-rest l = length l.rest
