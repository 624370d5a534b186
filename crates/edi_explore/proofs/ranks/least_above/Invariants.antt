use Rattle.std.proofs.Common.{◌<◌, ℕ}
use Rattle.edi_explore.specs.Links.{rank_in}
use Rattle.edi_explore.proofs.ranks.least_above.Given as goal

-- all so far are below
abbrev pub invariant-loop-rank : goal.invariant-loop-rank
invariant-loop-rank l = (v : ℕ) → v < l.rank-index → rank_in l.ranks v < l.least
