use Rattle.std.proofs.Common.{sym, arith}
use Rattle.edi_timeline.proofs.Boxed.{exactly, at_most}
use Rattle.edi_timeline.proofs.Counting.{taken_whole}
use Rattle.edi_timeline.proofs.picture.first_rows.Goals as goal

pub slice_bounds-result-end : goal.slice_bounds-result-end
slice_bounds-result-end c = exactly 1000 c.args.rows.now (omega (arith, c.if-rows-gt-MOST_BOXES.true))

pub returns-then-rows-gt-MOST_BOXES-clause-few : goal.returns-then-rows-gt-MOST_BOXES-clause-few
returns-then-rows-gt-MOST_BOXES-clause-few c = at_most 1000 c.args.rows.now

pub returns-clause-exact : goal.returns-clause-exact
returns-clause-exact c = sym (taken_whole 1000 c.args.rows.now (omega (arith, c.if-rows-gt-MOST_BOXES.false)))
