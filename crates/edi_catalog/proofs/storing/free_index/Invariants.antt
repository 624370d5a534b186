use Rattle.std.proofs.Common.{◌≡◌, ℕ, ◌<◌, false, None}
use Rattle.std.specs.Prelude.{is_none, slice_index_or}
use Rattle.edi_catalog.proofs.storing.free_index.Given as goal

abbrev pub invariant-loop-index : goal.invariant-loop-index
invariant-loop-index l = (k : ℕ) → k < l.index → is_none (slice_index_or l.files k None) ≡ false
