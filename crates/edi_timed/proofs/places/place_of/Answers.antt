use Rattle.std.proofs.Common.{refl, arith, sym, ◌∙◌, length-set}
use Rattle.edi_waits.specs.Places.{place}
use Rattle.edi_timed.proofs.Placing.{one_line_more, no_line_more}
use Rattle.edi_timed.proofs.places.place_of.Goals as goal

pub returns-in_default-clause-exact : goal.returns-in_default-clause-exact
returns-in_default-clause-exact c =
    no_line_more c.args.code.now.words c.args.kernel.now.store c.args.activity.now.segment.first c.loop-many.base c.loop-many.many c.loop-many.lines
    (place c.args.code.now.words c.args.kernel.now.store c.args.activity.now.segment.first c.args.activity.now.base c.args.activity.now.pc)
    c.loop-many.invariant.lines (sym c.below.ensures.exact ∙ c.in_default.is)

pub loop-many-preserved : goal.loop-many-preserved
loop-many-preserved c = record {
  lines =
      one_line_more c.args.code.now.words c.args.kernel.now.store c.args.activity.now.segment.first c.loop-many.base c.loop-many.many c.loop-many.lines
      (place c.args.code.now.words c.args.kernel.now.store c.args.activity.now.segment.first c.args.activity.now.base c.args.activity.now.pc)
      c.loop-many.invariant.lines c.in-Some.below c.line_before-in-loop-many.result _ c.loop-many-test.true c.loop-many.invariant.wide
      (sym c.below.ensures.exact ∙ c.in-Some.is) c.line_before-in-loop-many.ensures refl;
  some = omega arith;
  few = omega (arith, c.loop-many-test.true);
  within = c.in-Some.ensures.within;
  wide = length-set c.loop-many.lines c.loop-many.many c.line_before-in-loop-many.result ∙ c.loop-many.invariant.wide;
}
