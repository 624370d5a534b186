use Rattle.std.proofs.Common.{◌≤◌, ℕ, IfOk, false, slice_index_or, subst}
use Rattle.edi_explain.specs.expected.Reaches.{May}
use Rattle.edi_explain.proofs.expected.after.expected_after.Goals as goal

pub returns : goal.returns
returns c = record {
  exact = subst (λ l. IfOk c.expected_behind.result (λ e. (kind : ℕ) → kind ≤ 50 → May l kind (slice_index_or e.kinds kind false))) c.as_slice.ensures.value
      c.expected_behind.ensures.exact;
}
