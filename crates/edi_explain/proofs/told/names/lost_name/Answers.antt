use Rattle.std.proofs.Common.{rules}
use Rattle.edi_explain.proofs.told.Marked.{may_be_declared, no_name}
use Rattle.edi_explain.proofs.told.names.lost_name.Goals as goal

pub loop-names-preserved : goal.loop-names-preserved
loop-names-preserved c =
    may_be_declared c.args.marks.now c.args.line c.loop-names.index c.loop-names.names c.loop-names-test.true
    (c.in-Some.number, c.in-Some.letters.now) _ c.in-Some.ensures.exact (search rules) c.loop-names.invariant

pub returns-in_default : goal.returns-in_default
returns-in_default c = record {
  exact = no_name c.args.marks.now c.args.line c.loop-names.index c.loop-names.names c.loop-names-test.true _ c.in_default.ensures.exact c.loop-names.invariant;
}
