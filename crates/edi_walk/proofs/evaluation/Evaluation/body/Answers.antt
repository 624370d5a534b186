use Rattle.std.proofs.Common.{sym, ap}
use Rattle.edi_unit.specs.Lists.{list_items}
use Rattle.edi_walk.proofs.Instances.{none_there}
use Rattle.edi_walk.proofs.evaluation.Evaluation.body.Goals as goal

pub returns-in-None : goal.returns-in-None
returns-in-None c = record {
  exact = ap (λ b. b.body) (sym (none_there (list_items c.args.self.now.unit.now.blocks) c.args.number c.in-None.ensures.exact));
}
