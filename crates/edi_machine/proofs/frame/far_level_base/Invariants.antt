use Rattle.std.proofs.Common.{◌≡◌, ◌-◌}
use Rattle.edi_target.specs.Memory.{level}
use Rattle.edi_machine.proofs.frame.far_level_base.Given as goal

-- the links that are left lead from here where all lead from the base
abbrev pub invariant-loop : goal.invariant-loop
invariant-loop l = level l.store (l.count - l.counter) l.at ≡ level l.store l.count l.base
