-- As deep as it lies.
use Rattle.std.proofs.Common.{ap, ◌∙◌}
use Rattle.edi_waits.specs.declared.births.Birth.{Birth}
use Rattle.edi_waits.specs.Names.{name_from}
use Rattle.edi_waits.proofs.births.Names.name.Goals as goal

pub returns : goal.returns
returns c = record {
  exact =
      c.in_ok-name.ensures.exact
      ∙ ap (λ (z : Birth). name_from c.args.self.now c.args.kernel.now.table z.depth c.args.slot) c.birth-own.ensures.exact;
}
