use Rattle.std.proofs.Common.{◌≡◌, length}
use Rattle.edi_calls.specs.Names.{without}
use Rattle.edi_walk.specs.Memory.{store_of}
use Rattle.edi_walk.proofs.memory.Memory.end.Given as goal

abbrev pub decreases-loop-place : goal.decreases-loop-place
decreases-loop-place l = length l.self.entries.items

abbrev pub invariant-loop-place : goal.invariant-loop-place
invariant-loop-place l = without (store_of l.self) l.name ≡ without (store_of l.initial.self) l.name
