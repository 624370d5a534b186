use Rattle.std.proofs.Common.{◌≡◌, ◌-◌}
use Rattle.edi_target.specs.Memory as memory
use Rattle.edi_debug.proofs.running.level.Given as goal

abbrev pub invariant-loop-level : goal.invariant-loop-level
invariant-loop-level l = record {
  exact : memory.level l.kernel.store (l.levels - l._level) l.found ≡ memory.level l.kernel.store l.levels l.base;
}
