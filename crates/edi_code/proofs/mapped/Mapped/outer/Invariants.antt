use Rattle.std.proofs.Common.{◌≡◌, ◌-◌}
use Rattle.edi_unit.specs.Tree.{ProgramUnit}
use Rattle.edi_unit.specs.Need as need
use Rattle.edi_code.specs.Mapped.{IsMapped}
use Rattle.edi_code.proofs.mapped.Mapped.outer.Given as goal

abbrev pub invariant-loop-level : goal.invariant-loop-level
invariant-loop-level l = (unit : ProgramUnit) → IsMapped unit l.self →
    need.outer unit.blocks l.found (l.levels - l._level) ≡ need.outer unit.blocks l.block l.levels
