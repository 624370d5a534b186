use Rattle.std.proofs.Common.{◌≡◌, length}
use Rattle.edi_walk.specs.Processes.{without_named}
use Rattle.edi_walk.proofs.walker.Walker.remove.Given as goal

abbrev pub decreases-loop-index : goal.decreases-loop-index
decreases-loop-index l = length l.self.live.items

abbrev pub invariant-loop-index : goal.invariant-loop-index
invariant-loop-index l = record {
  live : without_named l.name l.self.live.items ≡ without_named l.name l.initial.self.live.items;
  others : l.self ≡ record l.initial.self { live = l.self.live };
}
