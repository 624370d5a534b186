use Rattle.std.proofs.Common.{rules, [], refl, arith}
use Rattle.edi_syntax.proofs.Waiting.{waits_on, waits_end}
use Rattle.edi_syntax.proofs.inside.is_in_begin.Goals as goal

pub loop-mark-init : goal.loop-mark-init
loop-mark-init c = record { waits = ([], refl, refl); few = omega arith }

pub loop-mark-preserved : goal.loop-mark-preserved
loop-mark-preserved c = record {
  waits = waits_on c.loop-mark.count c.count_behind-count.result c.loop-mark.mark-index c.args.marks.now c.mark-item.result c.loop-mark-test.true
      c.mark-item.is c.loop-mark.invariant.waits c.count_behind-count.ensures.exact;
  few = omega (arith, c.loop-mark.invariant.few, c.count_behind-count.ensures.small);
}

pub returns : goal.returns
returns c = record { exact = waits_end c.loop-mark.count c.loop-mark.mark-index c.args.marks.now (search rules) c.loop-mark.invariant.waits }
