-- At its index.
use Rattle.std.proofs.Common.{ap, ◌∙◌, map}
use Rattle.edi_waits.specs.Left.{index_among, told_end}
use Rattle.edi_waits.specs.Told.{name_of}
use Rattle.edi_waits.proofs.Ordered.{told_put}
use Rattle.edi_waits.proofs.ends.put_in.Goals as goal

pub returns : goal.returns
returns c = record {
  exact =
      ap (map told_end) c.in_ok-insert.ensures.items
      ∙ told_put c.args.processes.now.items c.args.process c.index_among-index.result
      (c.index_among-index.ensures.exact
      ∙ (λ t. index_among (name_of (c.as_slice-2.ensures.value t)) (map told_end (c.as_slice.ensures.value t))));
}
