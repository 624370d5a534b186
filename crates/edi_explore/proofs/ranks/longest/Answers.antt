-- The ranks are as many as the states, and fall along all links.
use Rattle.std.proofs.Common.{arith, subst}
use Rattle.edi_explore.specs.Links.{AreBelow, FallAlongAll}
use Rattle.edi_explore.proofs.Links.{have_ranks}
use Rattle.edi_explore.proofs.ranks.longest.Goals as goal

pub returns : goal.returns
returns c = record {
  ranks =
      have_ranks c.args.links.now c.in-Ok.ranks.items c.args.count c.least_above.result
      (omega (arith, c.if-len-count.false, c.len.ensures, c.in-Ok.ranks.ok.0))
      (subst (λ xs. FallAlongAll xs c.args.links.now) c.deref.ensures.value (c.fall.ensures c.if-not-fall.false))
      (subst (λ xs. AreBelow xs c.least_above.result) c.deref-2.ensures.value c.least_above.ensures);
}
