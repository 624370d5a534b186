use Rattle.std.proofs.Common.{sym, ◌∙◌}
use Rattle.edi_walk.proofs.SameParts.{parts_seen, lengths_apart}
use Rattle.edi_walk.proofs.operators.+same.Goals as goal

pub returns-then-len-others : goal.returns-then-len-others
returns-then-len-others t c = record {
  exact =
      sym (parts_seen c.args.one.now c.args.other.now c.in-Compound.ones c.in-Some.others.now c.in-Compound.is c.in-Some.ensures.some
      ∙ lengths_apart c.in-Compound.ones.items c.in-Some.others.now (λ e. c.if-len-others.true (c.len.ensures ∙ c.in-Compound.ones.ok.0 ∙ e)));
}
