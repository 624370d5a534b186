use Rattle.std.proofs.Common.{◌≡◌, ℕ, [], ◌++◌, take, drop, slice_index_or}
use Rattle.edi_sights.specs.Sights.{count_in, sights_on}
use Rattle.edi_sights.proofs.numbering.sights_on.Given as goal

abbrev pub invariant-loop-one : goal.invariant-loop-one
invariant-loop-one l = record {
  counts : (b : ℕ) → slice_index_or l.counts.items b 0 ≡ count_in b (take l.one-index l.awaits);
  left : l.sights.items ++ sights_on l.line (take l.one-index l.awaits) (drop l.one-index l.awaits) ≡ sights_on l.line [] l.awaits;
}
