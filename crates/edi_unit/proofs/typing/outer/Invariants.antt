use Rattle.std.proofs.Common.{◌≡◌, ◌-◌}
use Rattle.std.specs.Prelude.{map}
use Rattle.edi_unit.specs.View.{block_of}
use Rattle.edi_unit.specs.Need as spec
use Rattle.edi_unit.proofs.typing.outer.Given as goal

abbrev pub invariant-loop-level : goal.invariant-loop-level
invariant-loop-level l = spec.outer (map block_of l.blocks) l.found (l.levels - l._level) ≡ spec.outer (map block_of l.blocks) l.block l.levels
