use Rattle.std.specs.Prelude.{◌≡◌, ℕ, ◌<◌, Some, slice_get}
use Rattle.edi_ring.specs.Lists.{list_at}
use Rattle.edi_ring.proofs.Lists.place.Given as goal

-- none of those before is the node
abbrev pub invariant-loop-i : goal.invariant-loop-i
invariant-loop-i g l = (k : ℕ) → k < l.i → slice_get (list_at l.self l.list) k ≡ Some l.node → ⊥
