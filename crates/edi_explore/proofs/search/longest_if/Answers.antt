-- The ranks, and the verdict with them.
use Rattle.std.proofs.Common.{ℕ, Option, Some, None}
use Rattle.std.specs.Prelude.{IfSome}
use Rattle.edi_explore.specs.Links.{HaveRanks}
use Rattle.edi_explore.proofs.search.longest_if.Goals as goal

with_it : (o : Option ℕ) (P : Type 0) (Q : ℕ → Type 0) → P → IfSome o Q → IfSome o (λ n. P × Q n)
with_it None P Q p q = tt
with_it (Some n) P Q p q = (p, q)

pub returns-in-All : goal.returns-in-All
returns-in-All c = record {
  ranks = with_it c.longest.result _ (HaveRanks c.args.links.now c.args.count) c.in-All.is c.longest.ensures.ranks;
}
