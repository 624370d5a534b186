use Rattle.std.proofs.lemmas.Result.{on_ok_weaker}
use Rattle.edi_unit.specs.ShapeView.{shape_of}
use Rattle.edi_static.specs.Views.{environment}
use Rattle.edi_static.proofs.Proper.{types_proper}
use Rattle.edi_static.proofs.known.Known.push_type.Goals as goal

pub returns-clause-proper : goal.returns-clause-proper
returns-clause-proper c =
    on_ok_weaker c.put.result
    (λ more. types_proper c.declare.new.self _ (shape_of c.args.shape) (environment c.args.self.now) c.in_ok-_number.ensures.declared c.in_ok-_number.ensures.table
    c.requires.proper)
    c.put.ensures.ok
