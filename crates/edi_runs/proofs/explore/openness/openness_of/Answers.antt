-- Where nothing is used openly inner steps keep to themselves; else the variables are those of the uses.
use Rattle.edi_unit.specs.View.{unit_of}
use Rattle.edi_runs.proofs.explore.Opened.{told_none}
use Rattle.edi_runs.proofs.explore.openness.openness_of.Goals as goal

pub returns-then-none : goal.returns-then-none
returns-then-none c = record {
  is = λ front few.
      told_none c.args.text.now (unit_of c.args.unit.now) _ c.if-none.true (c.in-Ok.ensures.keep front.can.fits few c.if-none.true);
}
