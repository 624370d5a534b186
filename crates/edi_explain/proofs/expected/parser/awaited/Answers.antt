use Rattle.std.proofs.Common.{rules}
use Rattle.edi_explain.proofs.expected.Reaching.{begun, none_left, step_not_taken, step_taken}
use Rattle.edi_explain.proofs.expected.parser.awaited.Goals as goal

pub loop-mark-init : goal.loop-mark-init
loop-mark-init c = record { awaits = begun c.args.marks.now _ (search rules); counted = (search rules) }

pub loop-mark-preserved : goal.loop-mark-preserved
loop-mark-preserved c = record {
  awaits = step_taken c.args.marks.now c.loop-mark.mark-index c.mark-item.result _ _ _ _ c.loop-mark-test.true c.mark-item.is c.kind_of.ensures.exact c.loop-mark.invariant.awaits c.in_ok-step.ensures.exact
      (c.is_taken.ensures.yes (search rules));
  counted = (search rules);
}

pub returns-then-not-is_taken : goal.returns-then-not-is_taken
returns-then-not-is_taken c = record {
  exact = step_not_taken c.args.marks.now c.loop-mark.mark-index c.mark-item.result _ c.advance.new.numbers.items _ _ c.loop-mark-test.true c.mark-item.is c.kind_of.ensures.exact c.loop-mark.invariant.awaits
      c.in_ok-step.ensures.exact (c.is_taken.ensures.no (search rules));
}

pub returns : goal.returns
returns c = record { exact = none_left c.args.marks.now c.loop-mark.mark-index _ (search rules) c.loop-mark.invariant.awaits }
