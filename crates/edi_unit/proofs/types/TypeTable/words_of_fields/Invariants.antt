use Rattle.std.proofs.Common.{◌≡◌, ◌+◌, ◌≤◌, ◌<◌, ℕ, length, get_or, drop}
use Rattle.std.specs.Prelude.{sum_by, min}
use Rattle.edi_unit.specs.Types.{size}
use Rattle.edi_unit.proofs.types.TypeTable.words_of_fields.Given as goal

abbrev pub invariant-loop-field : goal.invariant-loop-field
invariant-loop-field l = record {
  small : l.total ≤ 65536;
  known : (k : ℕ) (d : ℕ) → k < l.field-index → get_or l.field-items k d < length l.self;
  words : min (l.total + sum_by (size l.self) (drop l.field-index l.field-items)) 65536 ≡ min (sum_by (size l.self) l.field-items) 65536;
}
