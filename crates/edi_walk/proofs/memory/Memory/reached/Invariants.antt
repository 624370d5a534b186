use Rattle.std.proofs.Common.{◌≡◌, ◌-◌}
use Rattle.edi_meaning.specs.Store.{reached, now, shape}
use Rattle.edi_walk.specs.Memory.{store_of}
use Rattle.edi_walk.proofs.memory.Memory.reached.Given as goal

abbrev pub invariant-loop-level : goal.invariant-loop-level
invariant-loop-level l =
    reached (shape (store_of l.self)) (l.levels - l._level) (l.process, l.depth) ≡ reached (shape (store_of l.self)) l.levels (now (shape (store_of l.self)) l.name)
