use Rattle.std.proofs.Common.{◌≡◌, ◌-◌, drop, length}
use Rattle.edi_target.specs.Check.{first_fault, jump_fault, starts_from, starts_of}
use Rattle.edi_target.proofs.targets.jump_fault.Given as goal

abbrev pub invariant-loop-op : goal.invariant-loop-op
invariant-loop-op l = first_fault (jump_fault l.words (starts_of l.words)) (starts_of l.words) ≡ first_fault (jump_fault l.words (starts_of l.words))
    (starts_from (drop l.at l.words) l.at 0)

abbrev pub decreases-loop-op : goal.decreases-loop-op
decreases-loop-op l = length l.words - l.at
