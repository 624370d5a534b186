use Rattle.std.proofs.Common.{subst, rules, w16}
use Rattle.std.proofs.lemmas.Int.{to_z-of_z}
use Rattle.edi_unit.specs.View.{expression_of}
use Rattle.edi_walk.specs.Data.{designated_of}
use Rattle.edi_walk.specs.Reads.{ReadsElement, ReadsValue}
use Rattle.edi_walk.proofs.ReadParts.{index_so, index_stops}
use Rattle.edi_walk.proofs.reading.to_element.Goals as goal

pub returns-in-Ok : goal.returns-in-Ok
returns-in-Ok c = record {
  exact =
      index_so c.args.here.now (expression_of c.args.e.now) c.args.line (designated_of c.args.target.now) (designated_of c.element.new.target) c.in-Ok.n
      c.element.result (subst (λ r. ReadsValue (expression_of c.args.e.now) r c.args.here.now) c.in-Ok.is c.requires.read)
      (subst (λ n. ReadsElement (designated_of c.args.target.now) (designated_of c.element.new.target) n c.args.line c.element.result c.args.here.now)
      (to_z-of_z w16 c.in-Ok.n (search rules)) c.element.ensures.exact);
}

pub returns-in-Err : goal.returns-in-Err
returns-in-Err c = record {
  exact =
      index_stops c.args.here.now (expression_of c.args.e.now) c.args.line (designated_of c.args.target.now) (designated_of c.args.target.now) c.in-Err.hurdle
      (subst (λ r. ReadsValue (expression_of c.args.e.now) r c.args.here.now) c.in-Err.is c.requires.read);
}
