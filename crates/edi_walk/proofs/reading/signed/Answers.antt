use Rattle.std.proofs.Common.{◌∙◌, ap, subst, rules, w16}
use Rattle.std.proofs.lemmas.Int.{to_z-of_z}
use Rattle.edi_unit.specs.Values.{ordinal, sign}
use Rattle.edi_unit.specs.View.{expression_of}
use Rattle.edi_walk.specs.Reads.{ReadsValue}
use Rattle.edi_walk.proofs.ReadParts.{sign_so, sign_stops}
use Rattle.edi_walk.proofs.reading.signed.Goals as goal

pub returns-in-Ok : goal.returns-in-Ok
returns-in-Ok c = record {
  exact =
      sign_so c.args.here.now (expression_of c.args.e.now) c.args.line c.in-Ok.n c.sign_ordinal.result c.ranged.result
      (c.sign_ordinal.ensures.exact ∙ ap (λ n. sign (ordinal n)) (to_z-of_z w16 c.in-Ok.n (search rules)))
      c.ranged.ensures.exact c.ranged.ensures.err
      (subst (λ r. ReadsValue (expression_of c.args.e.now) r c.args.here.now) c.in-Ok.is c.requires.read);
}

pub returns-in-Err : goal.returns-in-Err
returns-in-Err c = record {
  exact =
      sign_stops c.args.here.now (expression_of c.args.e.now) c.args.line c.in-Err.hurdle
      (subst (λ r. ReadsValue (expression_of c.args.e.now) r c.args.here.now) c.in-Err.is c.requires.read);
}
