use Rattle.std.proofs.Common.{◌≡◌, ◌≤◌, ◌+◌, ◌-◌, ◌^◌, ◌++◌}
use Rattle.edi_kernel.specs.Kept.{kept_of, kept_words}
use Rattle.edi_kernel.proofs.kept.keep_words.Given as goal

-- what is kept so far, and then what counts from here, is all that counts
abbrev pub invariant-loop : goal.invariant-loop
invariant-loop l = record {
  so_far : l.words.items ++ kept_words (l.top - l.first - l.counter) l.store l.first l.from l.to ≡ kept_of l.store l.first l.base l.top;
  first : l.first ≤ l.from;
  base : l.from + 5 ≤ l.to;
  top : l.to ≤ 2 ^ 16;
}
