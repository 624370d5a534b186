use Rattle.std.proofs.Common.{◌≡◌, ℕ, ◌<◌, false, None}
use Rattle.std.specs.Prelude.{slice_index_or}
use Rattle.edi_image.specs.Stored.{is_titled}
use Rattle.edi_catalog.proofs.files.index_of.Given as goal

abbrev pub invariant-loop-index : goal.invariant-loop-index
invariant-loop-index l = (k : ℕ) → k < l.index → is_titled l.title (slice_index_or l.files k None) ≡ false
