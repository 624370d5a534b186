-- The children are named, and then the parent has forked once more.
use Rattle.std.proofs.Common.{length, ap, ◌∙◌, arith, slice_set}
use Rattle.std.proofs.lemmas.List.{length-set}
use Rattle.edi_kernel.specs.Table.{ready_slots}
use Rattle.edi_waits.specs.declared.births.Names.{Names}
use Rattle.edi_waits.specs.Names.{forked_more, no_birth}
use Rattle.edi_waits.proofs.Lists.{item_other, item_same}
use Rattle.edi_waits.proofs.Naming.{has_forked}
use Rattle.edi_waits.proofs.births.Names.fork.Goals as goal

pub returns : goal.returns
returns c =
    let mid = c.bear.new.self in
    let next : Names = record { births = slice_set mid.births c.args.slot c.forked_more.result } in
    let b = c.bear.ensures.bears in
    record {
      forked = has_forked c.args.slot c.args.from (length (ready_slots c.args.kernel.now.table)) _ c.args.self.now mid next (omega arith) b
          (length-set mid.births c.args.slot c.forked_more.result ∙ b.wide)
          (item_same no_birth mid.births c.args.slot c.forked_more.result (omega (arith, b.wide, c.requires.slot))
          ∙ c.forked_more.ensures.exact ∙ ap forked_more c.birth.ensures.exact)
          (λ i other. item_other no_birth mid.births c.args.slot i c.forked_more.result other);
    }
