use Rattle.std.proofs.Common.{◌-◌, ◌≡◌, ◌≤◌, ◌<◌, ℕ, List, false, slice_index_or, length}
use Rattle.edi_lex.specs.declared.symbol.Mark.{Mark}
use Rattle.edi_explain.specs.expected.Advances.{Awaits}
use Rattle.edi_explain.specs.expected.Reaches.{May}
use Rattle.edi_explain.proofs.expected.after.expected_for.Given as goal

abbrev pub invariant-loop-kind : goal.invariant-loop-kind
invariant-loop-kind l = record {
  most : l.kind ≤ 51;
  size : length l.kinds ≡ 51;
  exact : (before : List Mark) → Awaits before l.numbers → (k : ℕ) → k < l.kind → May before k (slice_index_or l.kinds k false);
}

abbrev pub decreases-loop-kind : goal.decreases-loop-kind
decreases-loop-kind l = 51 - l.kind
