use Rattle.std.proofs.Common.{◌≡◌, ◌+◌, drop, get_or}
use Rattle.std.specs.Prelude.{sum_by}
use Rattle.edi_unit.proofs.types.record_size.Given as goal

abbrev pub invariant-loop-field : goal.invariant-loop-field
invariant-loop-field l = l.total + sum_by (λ t. get_or l.sizes t 0) (drop l.field-index l.field-items) ≡ sum_by (λ t. get_or l.sizes t 0) l.field-items
