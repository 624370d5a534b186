use Rattle.std.proofs.Common.{◌≡◌, ℕ, ◌<◌}
use Rattle.std.specs.Prelude.{IsSome}
use Rattle.edi_ring.specs.Lists.{home_of}
use Rattle.edi_disk.specs.Slots.{slot_at}
use Rattle.edi_disk.proofs.cache.find.Given as goal

abbrev pub invariant-loop-slot : goal.invariant-loop-slot
invariant-loop-slot l = (slot : ℕ) → slot < l.slot → IsSome (home_of l.order slot) → (slot_at l.slots slot).number ≡ l.n → ⊥
